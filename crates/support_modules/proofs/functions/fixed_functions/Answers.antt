use Rattle.std.proofs.Common.{List, [], ◌∷◌, ◌++◌, map, sym, ap, ◌∙◌}
use Rattle.std.proofs.lemmas.List.{map-append}
use Rattle.net_tree.specs.Tree.{Procedure}
use Rattle.net_tree.specs.View.{procedure_of}
use Rattle.support_modules.proofs.FixedList.{next_fixed}
use Rattle.support_modules.proofs.functions.fixed_functions.Goals as goal

pub loop-place-preserved : goal.loop-place-preserved
loop-place-preserved c =
    let p = c.in_ok-fixed_function.field-0 in
    ap (map procedure_of) c.in_ok-push.ensures.items
    ∙ map-append procedure_of c.loop-place.all.items (p ∷ [])
    ∙ ap (λ (xs : List Procedure). xs ++ procedure_of p ∷ []) c.loop-place.invariant
    ∙ sym (next_fixed c.loop-place.place (procedure_of p) c.in_ok-fixed_function.ensures)
