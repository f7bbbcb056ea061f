-- Lists of one item, counts, and lists that are too short.
use Rattle.std.proofs.Common.{◌≡◌, suc, Bool, true, false, List, [], ◌∷◌, length, refl, ap, ◌<◌, arith}
use Rattle.std.specs.Prelude.{◌||◌}
use Rattle.bound_tree.specs.declared.expression.BoundExpr.{BoundExpr}
use Rattle.bound_tree.specs.Tree.{Declarations}
use Rattle.bound_tree.specs.View.{exprs_of}
use Rattle.array_bounds.specs.Elements.{asks_above, count}
use Rattle.array_bounds.specs.Known.{Known}

pub or_false : (b : Bool) → (b || false) ≡ b
or_false true = refl
or_false false = refl

pub count_listed : (es : List BoundExpr) → count (exprs_of es) ≡ length es
count_listed [] = refl
count_listed (e ∷ es) = ap suc (count_listed es)

pub asks_few : (D : Declarations) (F : Known) (es : List BoundExpr) → length es < 2 → asks_above D F (exprs_of es) ≡ false
asks_few D F [] h = refl
asks_few D F (e ∷ []) h = refl
asks_few D F (e ∷ f ∷ es) h = absurd (omega arith)
