use Rattle.std.proofs.Common.{List, ap, sym, ◌∙◌, nat_eq}
use Rattle.std.specs.Prelude.{not, ◌&&◌}
use Rattle.bound_tree.specs.declared.expression.BoundExpr.{BoundExpr}
use Rattle.bound_tree.specs.View.{declarations_of, expr_of, exprs_of, term_of}
use Rattle.bound_tree.proofs.Views.{element_shown, lib_shown}
use Rattle.bound_facts.specs.Bounds.{array_at}
use Rattle.array_bounds.specs.Elements.{asks_above, count, is_bound_lib, misfits_in, rank_at}
use Rattle.array_bounds.specs.FactsOf.{known_of}
use Rattle.array_bounds.proofs.misfits.misfits_in.Goals as goal

pub returns-in-Element : goal.returns-in-Element
returns-in-Element c =
    let D = declarations_of c.args.facts.now.declared.now in
    let F = known_of c.args.facts.now in
    c.misfits_indexes.ensures
    ∙ ap (λ (es : List BoundExpr). not (nat_eq (count (exprs_of es)) (rank_at F (array_at D (expr_of c.deref.result.now))))) c.deref-in-Element.ensures.value
    ∙ ap (λ (e : BoundExpr). not (nat_eq (count (exprs_of c.in-Element.indexes.items)) (rank_at F (array_at D (expr_of e))))) c.deref.ensures
    ∙ ap (misfits_in D F) (sym (ap term_of c.in-Element.is ∙ element_shown c.in-Element.of c.in-Element.indexes))

pub returns-in_ok-misfits_lib-in-Lib : goal.returns-in_ok-misfits_lib-in-Lib
returns-in_ok-misfits_lib-in-Lib c =
    let D = declarations_of c.args.facts.now.declared.now in
    let F = known_of c.args.facts.now in
    c.in_ok-misfits_lib-in-Lib.ensures
    ∙ ap (λ (es : List BoundExpr). is_bound_lib c.in-Lib.function && asks_above D F (exprs_of es)) c.deref-in-Lib.ensures.value
    ∙ ap (misfits_in D F) (sym (ap term_of c.in-Lib.is ∙ lib_shown c.in-Lib.function c.in-Lib.args))
