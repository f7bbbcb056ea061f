-- A Decimal is rounded as the Currency of as many ten-thousandths.
use Rattle.std.proofs.Common.{◌≡◌, ℕ, zero, suc, ◌+◌, ◌*◌, ◌-◌, ◌/◌, ◌%◌, ◌^◌, ◌<◌, ◌≤◌, arith, sym, ◌∙◌, ap, refl, Bool, true, false, ℤ, pos, negsuc, neg_ℤ, ◌*ℤ◌}
use Rattle.std.specs.Prelude.{nat_lt, if◌then◌else◌}
use Rattle.std.proofs.Math.Nat.{mul-div-mul_right, mod-eq-sub-div-mul, mul-lt-mul_of_pos_right, mul-le-mul_right}
use Rattle.std.proofs.lemmas.Nat.{pow-add, div-add-mod'}
use Rattle.std.proofs.lemmas.Bool.Decides.{nat_tests}
use Rattle.vb6_meaning.specs.Rounding.{half_even, rounded}
use Rattle.net_meaning.specs.ValueMatch.{IsTenThousandths}
use Rattle.net_meaning.proofs.Powers.{power_positive}

remainder_scales : (a d k : ℕ) → 0 < k → (a * k) % (d * k) ≡ (a % d) * k
remainder_scales a d k h =
    let parts = ap (λ x. x * k) (div-add-mod' a d) in
    mod-eq-sub-div-mul (a * k) (d * k) ∙ ap (λ q. a * k - q * (d * k)) (mul-div-mul_right a d h) ∙ omega (arith, parts)

pub test_at : (b : Bool) (x y k : ℕ) → 0 < k → nat_lt x y ≡ b → nat_lt (x * k) (y * k) ≡ b
test_at true x y k h e =
    let below : x < y = grind (arith, nat_tests) in
    let more = mul-lt-mul_of_pos_right below h in grind (arith, nat_tests)
test_at false x y k h e =
    let above : y ≤ x = grind (arith, nat_tests) in
    let more = mul-le-mul_right k above in grind (arith, nat_tests)

-- a test of doubled numbers does not change with the scale
below_half : (r d k : ℕ) → 0 < k → nat_lt (2 * (r * k)) (d * k) ≡ nat_lt (2 * r) d
below_half r d k h = let e : 2 * (r * k) ≡ 2 * r * k = omega arith in
    ap (λ x. nat_lt x (d * k)) e ∙ test_at (nat_lt (2 * r) d) (2 * r) d k h refl

above_half : (r d k : ℕ) → 0 < k → nat_lt (d * k) (2 * (r * k)) ≡ nat_lt d (2 * r)
above_half r d k h = let e : 2 * (r * k) ≡ 2 * r * k = omega arith in
    ap (λ x. nat_lt (d * k) x) e ∙ test_at (nat_lt d (2 * r)) d (2 * r) k h refl

-- which of three, by both tests
abbrev chosen : Bool → Bool → ℕ → ℕ
chosen b c q = if b then q else (if c then q + 1 else q + q % 2)

pub half_even_scales : (a d k : ℕ) → 0 < k → half_even (a * k) (d * k) ≡ half_even a d
half_even_scales a d k h =
    ap (λ r. chosen (nat_lt (2 * r) (d * k)) (nat_lt (d * k) (2 * r)) (a * k / (d * k))) (remainder_scales a d k h)
    ∙ ap (λ q. chosen (nat_lt (2 * (a % d * k)) (d * k)) (nat_lt (d * k) (2 * (a % d * k))) q) (mul-div-mul_right a d h)
    ∙ ap (λ b. chosen b (nat_lt (d * k) (2 * (a % d * k))) (a / d)) (below_half (a % d) d k h)
    ∙ ap (λ b. chosen (nat_lt (2 * (a % d)) d) b (a / d)) (above_half (a % d) d k h)

rounded_below : (n d : ℕ) → 0 < n → rounded (neg_ℤ (pos n)) d ≡ neg_ℤ (pos (half_even n d))
rounded_below zero d h = absurd (omega (arith, h))
rounded_below (suc n) d h = refl

pub rounded_scales : (m : ℤ) (d k : ℕ) → 0 < k → rounded (m *ℤ pos k) (d * k) ≡ rounded m d
rounded_scales (pos a) d k h = ap pos (half_even_scales a d k h)
rounded_scales (negsuc a) d k h =
    rounded_below (suc a * k) (d * k) (omega (arith, h)) ∙ ap (λ n. neg_ℤ (pos n)) (half_even_scales (suc a) d k h)

pub rounded_decimal : (z m : ℤ) (s : ℕ) → IsTenThousandths z m s → rounded z 10000 ≡ rounded m (10 ^ s)
rounded_decimal z m s h =
    let all : s + (4 - s) ≡ 4 = omega (arith, h.0) in
    let split : 10 ^ s * 10 ^ (4 - s) ≡ 10000 = sym (pow-add 10 s (4 - s)) ∙ ap (λ n. 10 ^ n) all in
    ap (λ w. rounded w 10000) (sym h.1) ∙ ap (λ d. rounded (m *ℤ pos (10 ^ (4 - s))) d) (sym split)
    ∙ rounded_scales m (10 ^ s) (10 ^ (4 - s)) (power_positive (4 - s))
