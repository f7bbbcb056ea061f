-- The source's calls of the library on the values of their arguments, which are evaluated from the left.
use Rattle.std.proofs.Common.{◌≡◌, ◌∙◌, sym, ap, List, [], ◌∷◌}
use Rattle.vb_tree.specs.BoundTree.{Ty}
use Rattle.vb_tree.specs.declared.bound.LibCall.{LibCall}
use Rattle.vb_tree.specs.declared.value.Value6.{Value6}
use Rattle.vb6_meaning.specs.Library.{call}
use Rattle.bound_tree.specs.Tree.{Expr, Exprs, no_exprs, next_expr}
use Rattle.run_base.specs.Outcomes.{Outcome, gives, after, then}
use Rattle.vb6_run.specs.Expressions as source
use Rattle.vb6_run.specs.Expressions.{Context, Parts}
use Rattle.vb6_run.specs.Store.{Memory}
use Rattle.row_laws.proofs.Composing.{after_nil, then_assoc}

abbrev pub WithValues : Type 0
WithValues = List Value6 → Memory → Outcome Memory Parts

module _ (C : Context) where
  none_is : (g : WithValues) (v : Memory) → then (source.values_of C no_exprs v) g ≡ g [] v
  none_is g v = after_nil (g [] v)

  rest_is : (y : Value6) (rest : Exprs) (g : WithValues) (v : Memory)
      → then (then (source.values_of C rest v) (λ ys u. gives [] (y ∷ ys) u)) g ≡ then (source.values_of C rest v) (λ ys u. g (y ∷ ys) u)
  rest_is y rest g v =
      then_assoc (source.values_of C rest v) (λ ys u. gives [] (y ∷ ys) u) g
      ∙ ap (λ k. then (source.values_of C rest v) k) (λ i ys u. after_nil (g (y ∷ ys) u) i)

  next_is : (d : Expr) (rest : Exprs) (g : WithValues) (v : Memory)
      → then (source.values_of C (next_expr d rest) v) g ≡ then (source.scalar_value C d v) (λ y u. then (source.values_of C rest u) (λ ys q. g (y ∷ ys) q))
  next_is d rest g v =
      then_assoc (source.scalar_value C d v) (λ y u. then (source.values_of C rest u) (λ ys q. gives [] (y ∷ ys) q)) g
      ∙ ap (λ k. then (source.scalar_value C d v) k) (λ i y u. rest_is y rest g u i)

  last_is : (d : Expr) (g : WithValues) (v : Memory)
      → then (source.values_of C (next_expr d no_exprs) v) g ≡ then (source.scalar_value C d v) (λ y u. g (y ∷ []) u)
  last_is d g v = next_is d no_exprs g v ∙ ap (λ k. then (source.scalar_value C d v) k) (λ i y u. none_is (λ ys q. g (y ∷ ys) q) u i)

  module _ (ty : Ty) (f : LibCall) where
    -- the value of the call, behind that of the first argument
    abbrev pub behind_first : Value6 → WithValues
    behind_first x xs u = source.answer_as ty (call f (x ∷ xs)) u

    abbrev pub valued : Expr → Exprs → Memory → Outcome Memory Parts
    valued e rest v = then (source.parts_of C e v) (λ p u. source.library_value C ty f e (λ q. source.values_of C rest q) p u)

    first_is : (e : Expr) (rest : Exprs) (v : Memory)
        → valued e rest v ≡ then (source.scalar_value C e v) (λ x u. then (source.values_of C rest u) (behind_first x))
    first_is e rest v = sym (then_assoc (source.parts_of C e v) (source.scalar_in C e) (λ x u. then (source.values_of C rest u) (behind_first x)))

    pub one_is : (e : Expr) (v : Memory) → valued e no_exprs v ≡ then (source.scalar_value C e v) (λ x u. behind_first x [] u)
    one_is e v = first_is e no_exprs v ∙ ap (λ k. then (source.scalar_value C e v) k) (λ i x u. none_is (behind_first x) u i)

    second_is : (d : Expr) (x : Value6) (u : Memory)
        → then (source.values_of C (next_expr d no_exprs) u) (behind_first x)
        ≡ after [] (then (source.scalar_value C d u) (λ y q. behind_first x (y ∷ []) q))
    second_is d x u = last_is d (behind_first x) u ∙ sym (after_nil (then (source.scalar_value C d u) (λ y q. behind_first x (y ∷ []) q)))

    pub two_is : (e d : Expr) (v : Memory)
        → valued e (next_expr d no_exprs) v
        ≡ then (source.scalar_value C e v) (λ x u. after [] (then (source.scalar_value C d u) (λ y q. behind_first x (y ∷ []) q)))
    two_is e d v = first_is e (next_expr d no_exprs) v ∙ ap (λ k. then (source.scalar_value C e v) k) (λ i x u. second_is d x u i)

    third_is : (d c : Expr) (x : Value6) (u : Memory)
        → then (source.values_of C (next_expr d (next_expr c no_exprs)) u) (behind_first x)
        ≡ then (source.scalar_value C d u) (λ y q. then (source.scalar_value C c q) (λ z m. behind_first x (y ∷ z ∷ []) m))
    third_is d c x u =
        next_is d (next_expr c no_exprs) (behind_first x) u
        ∙ ap (λ k. then (source.scalar_value C d u) k) (λ i y q. last_is c (λ ys m. behind_first x (y ∷ ys) m) q i)

    pub three_is : (e d c : Expr) (v : Memory)
        → valued e (next_expr d (next_expr c no_exprs)) v
        ≡ then (source.scalar_value C e v) (λ x u. then (source.scalar_value C d u) (λ y q. then (source.scalar_value C c q) (λ z m. behind_first x (y ∷ z ∷ []) m)))
    three_is e d c v = first_is e (next_expr d (next_expr c no_exprs)) v ∙ ap (λ k. then (source.scalar_value C e v) k) (λ i x u. third_is d c x u i)
