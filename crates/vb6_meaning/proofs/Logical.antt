-- A logical operator by whether its operands are Booleans.
use Rattle.std.proofs.Common.{◌≡◌, Bool, Some, None, refl}
use Rattle.vb_tree.specs.declared.value.Value6.{Value6}
use Rattle.vb_tree.specs.declared.value.Value6.TheVariants as v
use Rattle.vb6_meaning.specs.declared.number.Number.{Number}
use Rattle.vb6_meaning.specs.Answers.{Answer, gives}
use Rattle.vb6_meaning.specs.Numbers.{number_of}
use Rattle.vb6_meaning.specs.Rows.{boolean_of}
use Rattle.vb6_meaning.specs.Values.{logical, on_numbers}

module _ (f : Bool → Bool → Bool) (row : Number → Number → Answer Value6) where
  pub first_is_none : (w x : Value6) → boolean_of w ≡ None → logical f row w x ≡ on_numbers row (number_of w) (number_of x)
  first_is_none (v.Boolean p) x e = cc
  first_is_none w x e = refl

  pub second_is_none : (w x : Value6) → boolean_of x ≡ None → logical f row w x ≡ on_numbers row (number_of w) (number_of x)
  second_is_none w (v.Boolean q) e = cc
  second_is_none (v.Boolean p) x e = refl
  second_is_none w x e = refl

  pub both_booleans : (w x : Value6) (p q : Bool) → boolean_of w ≡ Some p → boolean_of x ≡ Some q → logical f row w x ≡ gives (v.Boolean (f p q))
  both_booleans (v.Boolean p) (v.Boolean q) r s e g = cc
  both_booleans w x p q e g = cc
