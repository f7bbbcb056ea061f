use Rattle.std.proofs.Common.{◌++◌, List, map, sym, ap, ◌∙◌}
use Rattle.vb_tree.specs.View.{form_of, redim_item_of}
use Rattle.bound_tree.specs.Tree.{Expr}
use Rattle.bound_tree.specs.View.{expr_of, shown}
use Rattle.bound_facts.specs.Parts.{stores}
use Rattle.byref_analysis.specs.Lines.{arrays_in}
use Rattle.byref_analysis.proofs.Uses.{arrays_are}
use Rattle.byref_analysis.proofs.lines.push_stores.Goals as goal

pub returns-in_ok-push_arrays-in-ReDim : goal.returns-in_ok-push_arrays-in-ReDim
returns-in_ok-push_arrays-in-ReDim c =
    let old = map shown c.args.to.now.items in
    let es = map expr_of c.args.exprs.now in
    c.in_ok-push_arrays-in-ReDim.ensures
    ∙ ap (λ items. old ++ arrays_in (map redim_item_of items) es) c.as_slice.ensures
    ∙ ap (λ (xs : List Expr). old ++ xs) (arrays_are (map redim_item_of c.in-ReDim.items) es)
    ∙ ap (λ f. old ++ stores (form_of f) es) (sym c.in-ReDim.is)
