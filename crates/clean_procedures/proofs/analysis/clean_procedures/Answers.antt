use Rattle.std.proofs.Common.{sym, ap, ◌∙◌, map}
use Rattle.std.proofs.lemmas.List.{length-map}
use Rattle.bound_tree.specs.View.{procedure_of, program_of}
use Rattle.clean_procedures.specs.Verdicts.{clean_to, shown_marks}
use Rattle.clean_procedures.proofs.Verdicts.{are_clean, some_shown}
use Rattle.clean_procedures.proofs.analysis.clean_procedures.Goals as goal

pub returns : goal.returns
returns c =
    let ms = map shown_marks c.args.marks.now in
    let m = some_shown shown_marks c.args.marks.now c.requires in
    let count = c.len.ensures ∙ sym (length-map c.args.bound.now.declared.procs procedure_of) in
    are_clean (program_of c.args.bound.now) ms m.0 c.in_ok-dirty.dirty.items c.in_ok-clean_flags.field-0.items m.1 c.in_ok-dirty.ensures
    (c.in_ok-clean_flags.ensures ∙ ap (λ flags. clean_to flags c.len.result) c.deref.ensures.value ∙ ap (clean_to c.in_ok-dirty.dirty.items) count)
