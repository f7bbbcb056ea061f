-- Rounding half to even gives the nearest whole number.
use Rattle.std.proofs.Common.{◌≡◌, ℕ, zero, suc, ◌+◌, ◌-◌, ◌*◌, ◌/◌, ◌%◌, ◌<◌, ◌≤◌, cond, ℤ, pos, negsuc, refl, sym, ap, ◌∙◌, subst, ⊎_elim, arith}
use Rattle.std.specs.Prelude.{nat_lt, neg_ℤ, ◌-ℤ◌, ◌*ℤ◌, unsigned_abs}
use Rattle.std.specs.Int.{abs_diff}
use Rattle.std.proofs.lemmas.Bool.Decides.{nat_tests}
use Rattle.std.proofs.Math.IntN.{sub_ℕ}
use Rattle.vb6_meaning.proofs.TwosComplement.{by_test, odd_or_even}
use Rattle.vb6_meaning.specs.Rounding.{half_even, rounded, IsNearestEven}

-- h is nearest to n / d
record IsNear (n d h : ℕ) : Type 0 where
  nearest : 2 * abs_diff n (h * d) ≤ d
  even : 2 * abs_diff n (h * d) ≡ d → h % 2 ≡ 0

-- for the quotient q and the remainder r
near_below : (n d q r : ℕ) → n ≡ q * d + r → 2 * r < d → IsNear n d q
near_below n d q r e below = record { nearest = omega arith; even = λ tie. absurd (omega arith) }

near_above : (n d q r : ℕ) → n ≡ q * d + r → r < d → d < 2 * r → IsNear n d (q + 1)
near_above n d q r e small above = record { nearest = omega arith; even = λ tie. absurd (omega arith) }

near_tie : (n d q r : ℕ) → n ≡ q * d + r → 2 * r ≡ d → IsNear n d (q + q % 2)
near_tie n d q r e tie =
    ⊎_elim
    (λ z. let P : ℕ → Type 0 = λ h. IsNear n d h in let same : q + q % 2 ≡ q = omega arith in subst P (sym same) (record { nearest = omega arith; even = λ t. z }))
    (λ o. let P : ℕ → Type 0 = λ h. IsNear n d h in let same : q + q % 2 ≡ q + 1 = omega arith in subst P (sym same) (record { nearest = omega arith; even = λ t. omega arith }))
    (odd_or_even q)

half_even_near : (n d : ℕ) → 0 < d → IsNear n d (half_even n d)
half_even_near n d positive =
    let small : n % d < d = omega arith in let whole : n ≡ n / d * d + n % d = omega arith in
    let P : ℕ → Type 0 = λ h. IsNear n d h in
    by_test (nat_lt (2 * (n % d)) d)
    (λ e. let low : 2 * (n % d) < d = grind (arith, nat_tests) in
    subst P (sym (ap (λ b. cond b (n / d) (cond (nat_lt d (2 * (n % d))) (n / d + 1) (n / d + n / d % 2))) e)) (near_below n d (n / d) (n % d) whole low))
    (λ e. let not_low : d ≤ 2 * (n % d) = grind (arith, nat_tests) in
    subst P (sym (ap (λ b. cond b (n / d) (cond (nat_lt d (2 * (n % d))) (n / d + 1) (n / d + n / d % 2))) e))
    (by_test (nat_lt d (2 * (n % d)))
    (λ f. let high : d < 2 * (n % d) = grind (arith, nat_tests) in subst P (sym (ap (λ b. cond b (n / d + 1) (n / d + n / d % 2)) f)) (near_above n d (n / d) (n % d) whole small high))
    (λ f. let not_high : 2 * (n % d) ≤ d = grind (arith, nat_tests) in subst P (sym (ap (λ b. cond b (n / d + 1) (n / d + n / d % 2)) f)) (near_tie n d (n / d) (n % d) whole (omega arith)))))

sub_size : (a b : ℕ) → unsigned_abs (sub_ℕ a b) ≡ (a - b) + (b - a)
sub_size a b = by_test (nat_lt a b)
    (λ e. let low : a < b = grind (arith, nat_tests) in ap (λ t. unsigned_abs (cond t (negsuc (b - suc a)) (pos (a - b)))) e ∙ omega arith)
    (λ e. let high : b ≤ a = grind (arith, nat_tests) in ap (λ t. unsigned_abs (cond t (negsuc (b - suc a)) (pos (a - b)))) e ∙ omega arith)

-- the distance of two whole numbers with a sign
apart : (n m : ℕ) → unsigned_abs (pos n -ℤ pos m) ≡ abs_diff n m
apart n zero = omega arith
apart n (suc m) = sub_size n (suc m)

apart_below : (n m : ℕ) → unsigned_abs (negsuc n -ℤ neg_ℤ (pos m)) ≡ abs_diff (suc n) m
apart_below n zero = sub_size 0 (suc n) ∙ omega arith
apart_below n (suc m) = sub_size (suc m) (suc n) ∙ omega arith

negative_product : (h d : ℕ) → neg_ℤ (pos h) *ℤ pos d ≡ neg_ℤ (pos (h * d))
negative_product zero d = let e : 0 * d ≡ 0 = omega arith in rw e refl
negative_product (suc h) d = refl

same_size : (h : ℕ) → unsigned_abs (neg_ℤ (pos h)) ≡ h
same_size zero = refl
same_size (suc h) = refl

pub nearest_even : (z : ℤ) (d : ℕ) → 0 < d → IsNearestEven z d (rounded z d)
nearest_even (pos n) d positive =
    let near = half_even_near n d positive in let e = apart n (half_even n d * d) in
    record { nearest = omega arith; even = λ tie. near.even (omega arith) }
nearest_even (negsuc n) d positive =
    let near = half_even_near (suc n) d positive in
    let e : unsigned_abs (negsuc n -ℤ neg_ℤ (pos (half_even (suc n) d)) *ℤ pos d) ≡ abs_diff (suc n) (half_even (suc n) d * d) =
    ap (λ m. unsigned_abs (negsuc n -ℤ m)) (negative_product (half_even (suc n) d) d) ∙ apart_below n (half_even (suc n) d * d) in
    let s = same_size (half_even (suc n) d) in
    record { nearest = subst (λ m. 2 * m ≤ d) (sym e) near.nearest; even = λ tie. ap (λ m. m % 2) s ∙ near.even (ap (λ m. 2 * m) (sym e) ∙ tie) }
