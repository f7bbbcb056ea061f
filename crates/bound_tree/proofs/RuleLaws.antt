-- Which rules sets have.
use Rattle.std.proofs.Common.{◌≡◌, ℕ, ◌<◌, ◌^◌, Bool, true, false, cond, refl, sym, ap, ◌∙◌, nat_eq, arith, max}
use Rattle.std.specs.Prelude.{◌||◌, bit_and, ◌*◌, ◌%◌, ◌/◌, ◌≤◌}
use Rattle.std.specs.Int.{bit_at}
use Rattle.std.proofs.lemmas.Bool.{eqb-true}
use Rattle.std.proofs.lemmas.Bool.Decides.{nat_tests}
use Rattle.std.proofs.lemmas.Nat.Bits.{bit_at_or, bit_at-pow_same, bit_at-pow_other, bit_at-zero, bit_at-lt, bit_at_above, shr_and_one}
use Rattle.std.proofs.lemmas.Nat.{pow_below}
use Rattle.std.proofs.Math.Nat.{mod-eq_of_lt, one-mul}
use Rattle.bound_tree.specs.declared.rule_set.RuleSet.{RuleSet}
use Rattle.bound_tree.specs.RuleSets.{has, none, with_rule, with_if, both}

-- bits as tests
either_bit : (a b : ℕ) → a < 2 → b < 2 → nat_eq (max a b) 1 ≡ (nat_eq a 1 || nat_eq b 1)
either_bit a b = grind (arith, nat_tests)

pub has_none : (m : ℕ) → has none m ≡ false
unfolding has none
has_none m = rw (bit_at-zero m) refl

pub has_both : (a b : RuleSet) (m : ℕ) → has (both a b) m ≡ (has a m || has b m)
unfolding has both
has_both a b m = ap (λ n. nat_eq n 1) (bit_at_or a.bits b.bits m) ∙ either_bit (bit_at a.bits m) (bit_at b.bits m) (bit_at-lt a.bits m) (bit_at-lt b.bits m)

bit_of : (n m : ℕ) (b : Bool) → nat_eq m n ≡ b → nat_eq (bit_at (2 ^ n) m) 1 ≡ b
bit_of n m true e = let s = eqb-true m n e in rw s (ap (λ k. nat_eq k 1) (bit_at-pow_same n))
bit_of n m false e = ap (λ k. nat_eq k 1) (bit_at-pow_other n m (λ s. absurd (grind (arith, nat_tests))))

or_comm : (a b : Bool) → (a || b) ≡ (b || a)
or_comm true true = refl
or_comm true false = refl
or_comm false true = refl
or_comm false false = refl

pub has_with : (s : RuleSet) (n m : ℕ) → has (with_rule s n) m ≡ (nat_eq m n || has s m)
unfolding has with_rule
has_with s n m =
    ap (λ k. nat_eq k 1) (bit_at_or s.bits (2 ^ n) m) ∙ either_bit (bit_at s.bits m) (bit_at (2 ^ n) m) (bit_at-lt s.bits m) (bit_at-lt (2 ^ n) m)
    ∙ ap (λ b. nat_eq (bit_at s.bits m) 1 || b) (bit_of n m (nat_eq m n) refl)
    ∙ or_comm (nat_eq (bit_at s.bits m) 1) (nat_eq m n)

pub has_with_if : (s : RuleSet) (n m : ℕ) (test : Bool) → has (with_if s n test) m ≡ (cond (nat_eq m n) test false || has s m)
has_with_if s n m true = has_with s n m ∙ ap (λ b. b || has s m) (same (nat_eq m n))
  where
    same : (b : Bool) → b ≡ cond b true false
    same true = refl
    same false = refl
has_with_if s n m false = ap (λ b. b || has s m) (same (nat_eq m n))
  where
    same : (b : Bool) → false ≡ cond b false false
    same true = refl
    same false = refl

-- the code's tests
pub has_shifted : (s : RuleSet) (n : ℕ) → has s n ≡ nat_eq (bit_and (s.bits / 2 ^ n) 1) 1
unfolding has
has_shifted s n = ap (λ k. nat_eq k 1) (sym (shr_and_one s.bits n))

pub has_above : (s : RuleSet) (n : ℕ) → s.bits < 2 ^ 32 → 32 ≤ n → has s n ≡ false
unfolding has
has_above s n fits high = ap (λ k. nat_eq k 1) (bit_at_above s.bits 32 n fits high)

pub one_shifted : (n : ℕ) → n < 32 → 1 * 2 ^ n % 4294967296 ≡ 2 ^ n
one_shifted n h = let b : 2 ^ n < 2 ^ 32 = pow_below n 32 h in mod-eq_of_lt (omega (arith, b)) ∙ one-mul (2 ^ n)
