-- The rows of comparisons of Variants give the same values as the comparisons of Visual Basic 6.
use Rattle.std.proofs.Common.{◌≡◌, ℕ, Bool, pos, refl, sym, ap, ◌∙◌, subst}
use Rattle.std.specs.Ordering.{is_eq, is_ne, is_lt, is_gt, is_le, is_ge}
use Rattle.std.specs.declared.cmp.Ordering.{Ordering}
use Rattle.std.specs.declared.cmp.Ordering.TheVariants.{Less, Equal, Greater}
use Rattle.vb_tree.specs.BoundTree as types
use Rattle.vb_tree.specs.declared.expression.BinOp.TheVariants as b
use Rattle.vb_tree.specs.declared.value.Value6.{Value6}
use Rattle.vb6_meaning.specs.Answers.{Answer, gives, raises, outside, then_answer}
use Rattle.vb6_meaning.specs.Values.{compared, held_order}
use Rattle.net_tree.specs.declared.expression.NetBin.{NetBin}
use Rattle.net_tree.specs.declared.expression.NetBin.TheVariants as op
use Rattle.net_tree.specs.declared.expression.OpN.TheVariants.{Bin}
use Rattle.net_meaning.specs.declared.value.ValueN.{ValueN}
use Rattle.net_meaning.specs.declared.value.ValueN.TheVariants as n
use Rattle.net_meaning.specs.Operators.{operate_net}
use Rattle.net_meaning.specs.SameValues.{Agrees}
use Rattle.net_meaning.specs.Support.{variant_of, on_variant, on_variants, sign_of}
use Rattle.net_meaning.specs.ValueMatch.{Matches, booleans}
use Rattle.meaning_laws.proofs.VariantRows.{same_variant}
use Rattle.row_laws.specs.Library.{compared_row, VariantGives}

-- the row of two Variants on those that match
pub on_both : {A : Type 0} (same : ℕ → ℕ → Bool) (f : Value6 → Value6 → Answer A) (a c : Value6) (x y : ValueN) → Matches same types.variant a x → Matches same types.variant c y → on_variants f x y ≡ f a c
on_both same f a c x y h k =
    ap (λ o. on_variant (λ a. on_variant (λ c. f a c) (variant_of y)) o) (same_variant same a x h)
    ∙ ap (λ o. on_variant (λ c. f a c) o) (same_variant same c y k)

-- the test of a sign
abbrev Tests : NetBin → (Ordering → Bool) → Type 0
Tests o test = (r : Ordering) → operate_net (Bin o) (n.Integer (sign_of r)) (n.Integer (pos 0)) ≡ gives (n.Boolean (test r))

equal_tests : Tests op.Equal is_eq
equal_tests Less = refl
equal_tests Equal = refl
equal_tests Greater = refl

not_equal_tests : Tests op.NotEqual is_ne
not_equal_tests Less = refl
not_equal_tests Equal = refl
not_equal_tests Greater = refl

less_tests : Tests op.Less is_lt
less_tests Less = refl
less_tests Equal = refl
less_tests Greater = refl

greater_tests : Tests op.Greater is_gt
greater_tests Less = refl
greater_tests Equal = refl
greater_tests Greater = refl

less_equal_tests : Tests op.LessEqual is_le
less_equal_tests Less = refl
less_equal_tests Equal = refl
less_equal_tests Greater = refl

greater_equal_tests : Tests op.GreaterEqual is_ge
greater_equal_tests Less = refl
greater_equal_tests Equal = refl
greater_equal_tests Greater = refl

module _ (o : NetBin) (test : Ordering → Bool) (tests : Tests o test) where
  abbrev tested : Answer Ordering → Answer ValueN
  tested p = then_answer (then_answer p (λ r. gives (n.Integer (sign_of r)))) (λ q. operate_net (Bin o) q (n.Integer (pos 0)))

  of_order : (same : ℕ → ℕ → Bool) (p : Answer Ordering) → Agrees (Matches same types.boolean) (compared test p) (tested p)
  of_order same (gives r) = (n.Boolean (test r), tests r, booleans (test r))
  of_order same (raises k) = refl
  of_order same outside = tt

  compared_same : (same : ℕ → ℕ → Bool) (a c : Value6) (x y : ValueN) → Matches same types.variant a x → Matches same types.variant c y → Agrees (Matches same types.boolean) (compared test (held_order a c)) (compared_row o x y)
  compared_same same a c x y h k =
      subst (λ p. Agrees (Matches same types.boolean) (compared test (held_order a c)) (tested p)) (sym (on_both same held_order a c x y h k)) (of_order same (held_order a c))

pub equal_same : VariantGives b.Equal types.boolean (compared_row op.Equal)
equal_same = compared_same op.Equal is_eq equal_tests

pub not_equal_same : VariantGives b.NotEqual types.boolean (compared_row op.NotEqual)
not_equal_same = compared_same op.NotEqual is_ne not_equal_tests

pub less_same : VariantGives b.Less types.boolean (compared_row op.Less)
less_same = compared_same op.Less is_lt less_tests

pub greater_same : VariantGives b.Greater types.boolean (compared_row op.Greater)
greater_same = compared_same op.Greater is_gt greater_tests

pub less_equal_same : VariantGives b.LessEqual types.boolean (compared_row op.LessEqual)
less_equal_same = compared_same op.LessEqual is_le less_equal_tests

pub greater_equal_same : VariantGives b.GreaterEqual types.boolean (compared_row op.GreaterEqual)
greater_equal_same = compared_same op.GreaterEqual is_ge greater_equal_tests
