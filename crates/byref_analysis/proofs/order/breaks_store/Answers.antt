use Rattle.std.proofs.Common.{◌≡◌, ◌<◌, Bool, false, List, [], ◌∷◌, length, map, refl, arith}
use Rattle.std.proofs.lemmas.List.{length-map}
use Rattle.bound_tree.specs.Tree.{Declarations, Expr}
use Rattle.bound_tree.specs.View.{declarations_of, expr_of}
use Rattle.byref_analysis.specs.FactsOf.{stirs_by}
use Rattle.byref_analysis.specs.Order.{breaks_store}
use Rattle.byref_analysis.proofs.order.breaks_store.Goals as goal

of_too_few : (D : Declarations) (stirring : Expr → Bool) (es : List Expr) → length es < 2 → false ≡ breaks_store D stirring es
of_too_few D stirring [] h = refl
of_too_few D stirring (e ∷ []) h = refl
of_too_few D stirring (e ∷ f ∷ es) h = absurd (omega (arith, h))

pub returns-in_default : goal.returns-in_default
returns-in_default c =
    of_too_few (declarations_of c.args.stirring.now.declared.now) (stirs_by c.args.stirring.now) (map expr_of c.args.exprs.now) (omega (arith, c.in_default.len_below, length-map c.args.exprs.now expr_of))
