use Rattle.std.proofs.Common.{◌≡◌, false, map, ap, ◌∙◌}
use Rattle.std.specs.List.{fold, filter}
use Rattle.net_tree.specs.View.{member_of, module_of}
use Rattle.net_tree.specs.Tree.{Module, proc}
use Rattle.support_text.specs.Noting.{has, noted, with_called}
use Rattle.support_text.specs.Rows.{all_rows, row_procedure, support_name}
use Rattle.support_text.specs.Walk.{walk_module}
use Rattle.support_text.proofs.Noted.{used_by, module_noted}
use Rattle.support_text.proofs.support.support_module.Goals as goal

pub returns : goal.returns
returns c =
    let modules = map module_of c.args.modules.now in
    let used : c.with_called-used.result ≡ with_called (used_by modules) = c.with_called-used.ensures ∙ ap with_called (c.walk_modules.ensures ∙ ap (λ u. fold (walk_module noted) u modules) c.none.ensures) in
    ap {B = Module} (λ name. record { name = name; class = false; members = map member_of c.in_ok-members.members }) c.in_ok-from_valid.ensures
    ∙ ap {B = Module} (λ members. record { name = support_name; class = false; members = members }) (c.in_ok-members.ensures ∙ ap (λ u. map (λ row. proc (row_procedure row)) (filter (has u) all_rows)) used)
    ∙ module_noted modules
