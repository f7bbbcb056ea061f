use Rattle.std.proofs.Common.{map, ap, sym, ◌∙◌}
use Rattle.net_tree.specs.View.{module_of}
use Rattle.net_reader.specs.FileSteps.{is_last_support, last_of}
use Rattle.net_reader.specs.ModuleReader.{complete, stuck}
use Rattle.net_reader.specs.ProjectReader.{response_in}
use Rattle.net_reader.proofs.Befores.{started}
use Rattle.net_reader.proofs.project_files.read_last.Goals as goal

pub returns-in-Complete : goal.returns-in-Complete
returns-in-Complete c =
    let read = rw c.in-Complete.is at c.in_ok-main.ensures in
    c.project_by.ensures
    ∙ sym (started c.args.before.note (map module_of c.args.before.modules.items) c.args.text.now (complete c.in-Complete.main)
    (c.if-not-is_last_support.ensures ∙ ap (λ items. is_last_support (last_of (map module_of items))) c.deref.ensures.value)
    (read ∙ ap (λ items. response_in (map module_of items) c.args.text.now) c.deref-2.ensures.value))

pub returns-in-Stuck : goal.returns-in-Stuck
returns-in-Stuck c =
    let read = rw c.in-Stuck.is at c.in_ok-main.ensures in
    sym (started c.args.before.note (map module_of c.args.before.modules.items) c.args.text.now (stuck c.in-Stuck.line)
    (c.if-not-is_last_support.ensures ∙ ap (λ items. is_last_support (last_of (map module_of items))) c.deref.ensures.value)
    (read ∙ ap (λ items. response_in (map module_of items) c.args.text.now) c.deref-2.ensures.value))
