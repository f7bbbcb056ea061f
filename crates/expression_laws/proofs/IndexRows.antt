-- What is written for an index gives the index counted from 0, or what is no index.
use Rattle.std.proofs.Common.{◌≡◌, inl, inr, refl, sym, ap, subst, ◌∙◌, ℕ, zero, suc, ◌<◌, ◌≤◌, ℤ, pos, negsuc, ◌-ℤ◌, Bool, true, false, cond, ◌&&◌, codes, arith, le-leb, ltb-true, ltb-false}
use Rattle.std.proofs.lemmas.Bool.{lt-leb}
use Rattle.std.proofs.lemmas.Int.{ints}
use Rattle.std.specs.Cmp.{signed_Decides}
use Rattle.std.specs.Int.{w32, cast_signed, cast_unsigned}
use Rattle.std.specs.Ordering.{int_eq}
use Rattle.std.specs.Prelude.{int_le, nat_le, nat_lt}
use Rattle.vb6_meaning.specs.Answers.{Answer}
use Rattle.vb6_meaning.specs.Answers as value
use Rattle.bound_tree.specs.Tree.{Expr}
use Rattle.net_tree.specs.Tree.{Exp}
use Rattle.net_tree.specs.Tree as tree
use Rattle.net_meaning.specs.declared.value.ValueN.{ValueN}
use Rattle.net_meaning.specs.declared.value.ValueN.TheVariants as n
use Rattle.net_meaning.specs.Support as support
use Rattle.net_meaning.specs.WrittenLiterals.{literal_value}
use Rattle.run_base.specs.Outcomes.{then}
use Rattle.written_trees.specs.Conversions.{support_call, two}
use Rattle.written_trees.specs.Exprs.{index_at, index_from, is_zero}
use Rattle.written_trees.specs.Library.{low_at, low_exp}
use Rattle.written_trees.specs.Literals.{is_negative}
use Rattle.written_trees.specs.Names as written_names
use Rattle.vb6_run.specs.Arrays.{is_long}
use Rattle.net_run.specs.Expressions.{value_of}
use Rattle.net_run.specs.Functions.{at_row}
use Rattle.net_run.specs.Making.{Jobs}
use Rattle.net_run.specs.Names.{Scope}
use Rattle.net_run.specs.Store.{Memory}
use Rattle.net_run.specs.Values.{Value, unknown, single, fields}
use Rattle.row_laws.specs.Follows.{Any, RowOfOne, on_value, on_values}
use Rattle.row_laws.specs.Uncaptured.{IsUncaptured}
use Rattle.row_laws.proofs.Composing.{after_nil, as_it_stands, by_row}
use Rattle.row_laws.proofs.Literals.{integer_given}
use Rattle.row_laws.proofs.Support.{support_of_two}
use Rattle.run_matches.specs.Addresses.{IsIndex, SameIndex, is_index}

-- ---- lower bounds

-- the value of what is written for a lower bound, which is the lower bound where that is a Long
abbrev pub low_value : ℤ → ValueN
low_value low = literal_value (tree.integer low (is_negative low))

pub low_integer : (low : ℤ) → (l : ℤ) × (low_value low ≡ n.Integer l)
low_integer (pos m) = (pos m, refl)
low_integer (negsuc m) = (cast_signed w32 (cast_unsigned w32 (negsuc m)), refl)

pub low_given : (low : ℤ) → is_long low ≡ true → low_value low ≡ n.Integer low
low_given low e = integer_given false low e

same_integer : (a b : ℤ) → n.Integer a ≡ n.Integer b → a ≡ b
same_integer a b e = cc e

-- ---- indexes from a lower bound

-- an Integer, which is the index from the lower bound where that is a Long
abbrev pub IndexLike : (low index : ℤ) → Value → Type 0
IndexLike low z y = IsIndex y × (is_long low ≡ true → SameIndex low z y)

least_is : (m : ℕ) → int_le (pos 0) (pos m) ≡ true
least_is m = le-leb 0 m (omega arith)

pub most_is : (m : ℕ) → nat_le m 2147483647 ≡ nat_lt m 2147483648
most_is m = by (nat_lt m 2147483648) refl
  where
    by : (b : Bool) → nat_lt m 2147483648 ≡ b → nat_le m 2147483647 ≡ b
    by true e = let lt : m < 2147483648 = ltb-true m 2147483648 e in le-leb m 2147483647 (omega arith)
    by false e = let le : 2147483648 ≤ m = ltb-false m 2147483648 e in lt-leb m 2147483647 (omega arith)

-- both tests of an index are the same
tests_same : (z : ℤ) → support.is_index z ≡ is_index z
tests_same (pos m) = ap (λ b. b && int_le (pos m) (pos 2147483647)) (least_is m) ∙ most_is m
tests_same (negsuc m) = refl

at_index : (z low : ℤ) → SameIndex low z (single (n.Integer (support.at z low)))
at_index z low = by (support.is_index (z -ℤ low)) refl
  where
    by : (b : Bool) → support.is_index (z -ℤ low) ≡ b → SameIndex low z (single (n.Integer (cond b (z -ℤ low) (negsuc 0))))
    by true e = inl refl
    by false e = inr (sym (tests_same (z -ℤ low)) ∙ e, refl)

from_zero : (low z : ℤ) → low ≡ pos 0 → z ≡ z -ℤ low
from_zero low z e = omega (arith, ints)

zero_is : (low : ℤ) → int_eq low (pos 0) ≡ true → low ≡ pos 0
zero_is low e = (signed_Decides low (pos 0)).0 e

-- ---- what is written

-- what is written for an index is a row on the index, which gives it from the lower bound
pub record IndexRow (S : Scope) (oracle : Jobs) (low : ℤ) (whole first : Exp) : Type 0 where
  pub row : ValueN → Answer ValueN
  pub is_row : RowOfOne S oracle Any whole first row
  pub counts : (z : ℤ) → (i : ℤ) × (row (n.Integer z) ≡ value.gives (n.Integer i)) × IndexLike low z (single (n.Integer i))

module _ (S : Scope) (oracle : Jobs) (free : IsUncaptured S) where
  beside : (y : ValueN) (u : Value) (w : Memory) → on_values at_row u (single y) w ≡ on_value (λ x. at_row x y) u w
  beside y (single x) w = refl
  beside y unknown w = refl
  beside y (fields us) w = refl

  behind_low : (low : ℤ) (u : Value) (w : Memory) → then (value_of S oracle (low_exp low) w) (on_values at_row u) ≡ on_value (λ x. at_row x (low_value low)) u w
  behind_low low u w = after_nil (on_values at_row u (single (low_value low)) w) ∙ beside (low_value low) u w

  at_is_row : (low : ℤ) (a : Exp) → RowOfOne S oracle Any (support_call (codes "At") (two a (low_exp low))) a (λ x. at_row x (low_value low))
  at_is_row low a =
      by_row (value_of S oracle (support_call (codes "At") (two a (low_exp low)))) (value_of S oracle a) (λ x. at_row x (low_value low))
      (λ w. support_of_two S oracle free (codes "At") at_row refl a (low_exp low) w
      ∙ ap (λ k. then (value_of S oracle a w) k) (λ i u w. behind_low low u w i))

  stands : (low : ℤ) (a : Exp) → low ≡ pos 0 → IndexRow S oracle low a a
  stands low a e = record {
    row = λ x. value.gives x;
    is_row = as_it_stands (value_of S oracle a);
    counts = λ z. (z, refl, (tt, λ f. inl (from_zero low z e)));
  }

  counted : (low : ℤ) (a : Exp) → IndexRow S oracle low (support_call (codes "At") (two a (low_exp low))) a
  counted low a = record {
    row = λ x. at_row x (low_value low);
    is_row = at_is_row low a;
    counts = λ z.
        let l = low_integer low in (
          support.at z l.0,
          ap (λ y. at_row (n.Integer z) y) l.1,
          (tt, λ f. subst (λ b. SameIndex b z (single (n.Integer (support.at z l.0)))) (same_integer l.0 low (sym l.1 ∙ low_given low f)) (at_index z l.0)),
        );
  }

  from_low : (low : ℤ) (a : Exp) → IndexRow S oracle low (index_from low a) a
  from_low low a = by (is_zero low) refl
    where
      by : (b : Bool) → is_zero low ≡ b → IndexRow S oracle low (cond b a (support_call (codes "At") (two a (low_exp low)))) a
      by true e = stands low a (zero_is low e)
      by false e = counted low a

  -- in each of two dimensions
  pub index_is_row : (T : written_names.Scope) (e : Expr) (d : ℕ) (a : Exp) → d < 2 → IndexRow S oracle (low_at T e d) (index_at T e d a) a
  index_is_row T e zero a lt = from_low (low_at T e 0) a
  index_is_row T e (suc zero) a lt = from_low (low_at T e 1) a
  index_is_row T e (suc (suc m)) a lt = absurd (omega arith)
