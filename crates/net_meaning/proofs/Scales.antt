-- Two Decimals at the larger of their scales, where one of them may have more than 127 bits.
use Rattle.std.proofs.Common.{◌≡◌, ℕ, zero, suc, ◌*◌, ◌-◌, ◌^◌, ◌<◌, ◌≤◌, max, arith, sym, ◌∙◌, ap, true, ℤ, pos, negsuc, ◌+ℤ◌, ◌*ℤ◌, unsigned_abs, FitsSigned, neg_ℤ, refl}
use Rattle.std.proofs.Math.Decide.{dec_le}
use Rattle.std.specs.Int.{w128}
use Rattle.std.specs.Ordering.{int_cmp}
use Rattle.std.specs.declared.cmp.Ordering.TheVariants.{Less, Greater}
use Rattle.vb6_meaning.specs.Answers.{outside}
use Rattle.std.proofs.lemmas.Int.{unsigned_abs-mul, fits_signed_from_abs, ints}
use Rattle.net_meaning.specs.Decimals.{is_decimal, decimal, at_scale, on_larger, order}
use Rattle.net_meaning.proofs.Powers.{power_positive}

pub mantissa_below : (m : ℤ) (s : ℕ) → is_decimal m s ≡ true → unsigned_abs m < 2 ^ 96
mantissa_below m s h = grind arith

pub at_own_scale : (m : ℤ) (s larger : ℕ) → larger ≤ s → unsigned_abs (at_scale m s larger) ≡ unsigned_abs m
at_own_scale m s larger h =
    let none : larger - s ≡ 0 = omega arith in
    let e : 10 ^ (larger - s) ≡ 1 = ap (λ k. 10 ^ k) none in
    unsigned_abs-mul m (pos (10 ^ (larger - s))) ∙ ap (λ p. unsigned_abs m * p) e ∙ omega arith

pub too_long : (z : ℤ) → (FitsSigned w128 z → ⊥) → 2 ^ 127 ≤ unsigned_abs z
too_long z h = elim (dec_le (2 ^ 127) (unsigned_abs z)) [
  | yes long ↦ long
  | no short ↦ absurd (h (fits_signed_from_abs w128 z (let s : unsigned_abs z < 2 ^ 127 = omega (arith, short) in s)))
]

-- the other one is as it was
pub other_short : (m : ℤ) (s : ℕ) (n : ℤ) (t : ℕ) → unsigned_abs m < 2 ^ 96 → unsigned_abs n < 2 ^ 96
    → 2 ^ 127 ≤ unsigned_abs (at_scale m s (max s t)) → unsigned_abs (at_scale n t (max s t)) < 2 ^ 96
other_short m s n t p q h = elim (dec_le t s) [
  | yes le ↦ (let own = at_own_scale m s (max s t) (omega arith) in omega (arith, own))
  | no gt ↦ (let own = at_own_scale n t (max s t) (omega arith) in omega (arith, own))
]

-- a sum of a long number and a short one is long
pub long_sum : (z w : ℤ) → 2 ^ 127 ≤ unsigned_abs z → unsigned_abs w < 2 ^ 96 → 2 ^ 96 ≤ unsigned_abs (z +ℤ w)
long_sum (pos a) (pos b) p q = omega arith
long_sum (pos a) (negsuc b) p q = omega (arith, ints)
long_sum (negsuc a) (pos b) p q = omega (arith, ints)
long_sum (negsuc a) (negsuc b) p q = omega arith

-- a long number is beyond a short one, on the side of its sign
pub long_order : (z w : ℤ) → 2 ^ 127 ≤ unsigned_abs z → unsigned_abs w < 2 ^ 96 → int_cmp z (pos 0) ≡ int_cmp z w
long_order (pos a) (pos b) p q = grind arith
long_order (pos a) (negsuc b) p q = grind arith
long_order (negsuc a) (pos b) p q = grind arith
long_order (negsuc a) (negsuc b) p q = grind arith

-- a number has its sign at each scale

above_zero : (n : ℕ) → 0 < n → int_cmp (pos n) (pos 0) ≡ Greater
above_zero n h = grind arith

below_zero : (n : ℕ) → 0 < n → int_cmp (neg_ℤ (pos n)) (pos 0) ≡ Less
below_zero zero h = absurd (omega (arith, h))
below_zero (suc n) h = refl

pub scaled_sign : (m : ℤ) (k : ℕ) → 0 < k → int_cmp m (pos 0) ≡ int_cmp (m *ℤ pos k) (pos 0)
scaled_sign (pos zero) k h = let e : zero ≡ zero * k = omega arith in ap (λ n. int_cmp (pos n) (pos 0)) e
scaled_sign (pos (suc a)) k h = above_zero (suc a) (omega arith) ∙ sym (above_zero (suc a * k) (omega arith))
scaled_sign (negsuc a) k h = sym (below_zero (suc a * k) (omega arith))

pub not_decimal : (m : ℤ) (s : ℕ) → 2 ^ 96 ≤ unsigned_abs m → decimal m s ≡ outside
not_decimal m s h = grind arith

-- what the code answers where the first number is too long

pub sum_beyond : (m : ℤ) (s : ℕ) (n : ℤ) (t larger : ℕ) → larger ≡ max s t → is_decimal m s ≡ true → is_decimal n t ≡ true
    → (FitsSigned w128 (at_scale m s larger) → ⊥) → decimal (on_larger (λ x y. x +ℤ y) m s n t) (max s t) ≡ outside
sum_beyond m s n t larger e p q h =
    let long = too_long (at_scale m s (max s t)) (λ f. h (rw e f)) in
    let short = other_short m s n t (mantissa_below m s p) (mantissa_below n t q) long in
    not_decimal (at_scale m s (max s t) +ℤ at_scale n t (max s t)) (max s t) (long_sum (at_scale m s (max s t)) (at_scale n t (max s t)) long short)

pub order_beyond : (m : ℤ) (s : ℕ) (n : ℤ) (t larger : ℕ) → larger ≡ max s t → is_decimal m s ≡ true → is_decimal n t ≡ true
    → (FitsSigned w128 (at_scale m s larger) → ⊥) → int_cmp m (pos 0) ≡ order m s n t
order_beyond m s n t larger e p q h =
    let long = too_long (at_scale m s (max s t)) (λ f. h (rw e f)) in
    let short = other_short m s n t (mantissa_below m s p) (mantissa_below n t q) long in
    scaled_sign m (10 ^ (max s t - s)) (power_positive (max s t - s))
    ∙ long_order (at_scale m s (max s t)) (at_scale n t (max s t)) long short
