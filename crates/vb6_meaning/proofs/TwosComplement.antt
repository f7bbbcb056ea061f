-- What the processor does with the bits of 32 bits is what the definition says.
use Rattle.std.proofs.Common.{◌≡◌, ℕ, zero, suc, ◌+◌, ◌-◌, ◌*◌, ◌/◌, ◌%◌, ◌^◌, ◌<◌, ◌≤◌, min, max, Bool, true, false, not, cond, ℤ, pos, negsuc, refl, sym, ap, ap₂, ◌∙◌, subst, ⊎_elim, inl, inr, ◌⊎◌, arith, FitsSigned, to_z, of_z, w32, bit_and, bit_or}
use Rattle.std.specs.Prelude.{nat_lt, ◌==◌, bit_xor}
use Rattle.std.specs.Int.{bit_at, bit_not}
use Rattle.std.proofs.lemmas.Nat.Bits.{bit_at_lowest, bit_at-suc, bit_at_and, bit_at_or, bit_at_xor, bit_at_not, bit_at-lt}
use Rattle.std.specs.Int.Bits.{and_lt, or_lt, xor_lt}
use Rattle.std.proofs.Math.Nat.{pow-suc}
use Rattle.std.proofs.lemmas.Bool.Decides.{nat_tests}
use Rattle.vb6_meaning.specs.Bits.{bit, with_lowest, of_sign, from_bits, bitwise}
use Rattle.vb6_meaning.specs.Values.{both, either, one_alone, alike, implies}

-- numbers by their bits, where as many of them count
pub from_bits_same : (w : ℕ) (b c : ℕ → Bool) → ((k : ℕ) → k ≤ w → b k ≡ c k) → from_bits w b ≡ from_bits w c
unfolding from_bits
from_bits_same zero b c same = ap of_sign (same 0 (omega arith))
from_bits_same (suc w) b c same =
    ap₂ with_lowest (same 0 (omega arith)) (from_bits_same w (λ k. b (suc k)) (λ k. c (suc k)) (λ k h. same (suc k) (omega arith)))

-- the number that m is in two's complement of w bits and a sign
signed : ℕ → ℕ → ℤ
signed w m = cond (nat_lt m (2 ^ w)) (pos m) (negsuc (2 ^ suc w - suc m))

pub by_test : {P : Type 0} (b : Bool) → (b ≡ true → P) → (b ≡ false → P) → P
by_test true at_true at_false = at_true refl
by_test false at_true at_false = at_false refl

lowest_clear : (p h : ℕ) → h < 2 * p → cond (nat_lt (h * 2) (2 * p)) (pos (h * 2)) (negsuc (2 * (2 * p) - suc (h * 2))) ≡ with_lowest false (cond (nat_lt h p) (pos h) (negsuc (2 * p - suc h)))
lowest_clear p h below = by_test (nat_lt h p)
    (λ e. let f : nat_lt (h * 2) (2 * p) ≡ true = grind (arith, nat_tests) in rw (e, f))
    (λ e. let f : nat_lt (h * 2) (2 * p) ≡ false = grind (arith, nat_tests) in rw (e, f) (ap negsuc (omega arith)))

lowest_set : (p h : ℕ) → h < 2 * p → cond (nat_lt (h * 2 + 1) (2 * p)) (pos (h * 2 + 1)) (negsuc (2 * (2 * p) - suc (h * 2 + 1))) ≡ with_lowest true (cond (nat_lt h p) (pos h) (negsuc (2 * p - suc h)))
lowest_set p h below = by_test (nat_lt h p)
    (λ e. let f : nat_lt (h * 2 + 1) (2 * p) ≡ true = grind (arith, nat_tests) in rw (e, f))
    (λ e. let f : nat_lt (h * 2 + 1) (2 * p) ≡ false = grind (arith, nat_tests) in rw (e, f) (ap negsuc (omega arith)))

pub odd_or_even : (m : ℕ) → (m % 2 ≡ 0) ⊎ (m % 2 ≡ 1)
odd_or_even m = by_test (m % 2 == 0) (λ e. inl (grind (arith, nat_tests))) (λ e. inr (grind (arith, nat_tests)))

-- a number of two's complement begins with its lowest bit
signed_step : (w m : ℕ) → m < 2 ^ suc (suc w) → signed (suc w) m ≡ with_lowest (m % 2 == 1) (signed w (m / 2))
unfolding signed
signed_step w m below =
    let two : 2 ^ suc w ≡ 2 * 2 ^ w = omega (arith, pow-suc 2 w) in
    let four : 2 ^ suc (suc w) ≡ 2 * (2 * 2 ^ w) = omega (arith, pow-suc 2 w, pow-suc 2 (suc w)) in
    let half : m / 2 < 2 * 2 ^ w = omega arith in
    ⊎_elim
    (λ e. let whole : m ≡ m / 2 * 2 = omega arith in
    subst (λ q. cond (nat_lt m q) (pos m) (negsuc (2 ^ suc (suc w) - suc m)) ≡ with_lowest (m % 2 == 1) (cond (nat_lt (m / 2) (2 ^ w)) (pos (m / 2)) (negsuc (q - suc (m / 2))))) (sym two)
    (subst (λ q. cond (nat_lt m (2 * 2 ^ w)) (pos m) (negsuc (q - suc m)) ≡ with_lowest (m % 2 == 1) (cond (nat_lt (m / 2) (2 ^ w)) (pos (m / 2)) (negsuc (2 * 2 ^ w - suc (m / 2))))) (sym four)
    (subst (λ r. cond (nat_lt m (2 * 2 ^ w)) (pos m) (negsuc (2 * (2 * 2 ^ w) - suc m)) ≡ with_lowest (r == 1) (cond (nat_lt (m / 2) (2 ^ w)) (pos (m / 2)) (negsuc (2 * 2 ^ w - suc (m / 2))))) (sym e)
    (subst (λ n. cond (nat_lt n (2 * 2 ^ w)) (pos n) (negsuc (2 * (2 * 2 ^ w) - suc n)) ≡ with_lowest false (cond (nat_lt (m / 2) (2 ^ w)) (pos (m / 2)) (negsuc (2 * 2 ^ w - suc (m / 2))))) (sym whole)
    (lowest_clear (2 ^ w) (m / 2) half)))))
    (λ e. let whole : m ≡ m / 2 * 2 + 1 = omega arith in
    subst (λ q. cond (nat_lt m q) (pos m) (negsuc (2 ^ suc (suc w) - suc m)) ≡ with_lowest (m % 2 == 1) (cond (nat_lt (m / 2) (2 ^ w)) (pos (m / 2)) (negsuc (q - suc (m / 2))))) (sym two)
    (subst (λ q. cond (nat_lt m (2 * 2 ^ w)) (pos m) (negsuc (q - suc m)) ≡ with_lowest (m % 2 == 1) (cond (nat_lt (m / 2) (2 ^ w)) (pos (m / 2)) (negsuc (2 * 2 ^ w - suc (m / 2))))) (sym four)
    (subst (λ r. cond (nat_lt m (2 * 2 ^ w)) (pos m) (negsuc (2 * (2 * 2 ^ w) - suc m)) ≡ with_lowest (r == 1) (cond (nat_lt (m / 2) (2 ^ w)) (pos (m / 2)) (negsuc (2 * 2 ^ w - suc (m / 2))))) (sym e)
    (subst (λ n. cond (nat_lt n (2 * 2 ^ w)) (pos n) (negsuc (2 * (2 * 2 ^ w) - suc n)) ≡ with_lowest true (cond (nat_lt (m / 2) (2 ^ w)) (pos (m / 2)) (negsuc (2 * 2 ^ w - suc (m / 2))))) (sym whole)
    (lowest_set (2 ^ w) (m / 2) half)))))
    (odd_or_even m)

-- a number of two's complement by its bits
signed_by_bits : (w m : ℕ) → m < 2 ^ suc w → signed w m ≡ from_bits w (λ k. bit_at m k == 1)
unfolding signed from_bits
signed_by_bits zero zero below = refl
signed_by_bits zero (suc zero) below = refl
signed_by_bits zero (suc (suc m)) below = absurd (omega arith)
signed_by_bits (suc w) m below =
    let two : 2 ^ suc (suc w) ≡ 2 * 2 ^ suc w = omega (arith, pow-suc 2 (suc w)) in
    let half : m / 2 < 2 ^ suc w = omega arith in
    signed_step w m below
    ∙ ap₂ with_lowest (ap (λ r. r == 1) (sym (bit_at_lowest m)))
    (signed_by_bits w (m / 2) half ∙ from_bits_same w (λ k. bit_at (m / 2) k == 1) (λ k. bit_at m (suc k) == 1) (λ k h. ap (λ r. r == 1) (sym (bit_at-suc m k))))

-- 32 bits that are those of b are the number by these bits
pub machine_number : (m : ℕ) (b : ℕ → Bool) → m < 2 ^ 32 → ((k : ℕ) → k ≤ 31 → (bit_at m k == 1) ≡ b k) → to_z w32 m ≡ from_bits 31 b
unfolding signed
machine_number m b below same = signed_by_bits 31 m below ∙ from_bits_same 31 (λ k. bit_at m k == 1) b same

-- a turned bit
turned : (t : ℕ) → ((1 - t) == 1) ≡ (t == 0)
turned t = grind (arith, nat_tests)

is_zero_bit : (t : ℕ) → t < 2 → (t == 0) ≡ not (t == 1)
is_zero_bit zero h = refl
is_zero_bit (suc zero) h = refl
is_zero_bit (suc (suc t)) h = absurd (omega arith)

-- the bits of a number's 32 bits
pub bits_of : (x : ℤ) → FitsSigned w32 x → (k : ℕ) → k ≤ 31 → (bit_at (of_z w32 x) k == 1) ≡ bit x k
bits_of (pos n) fit k h = refl
bits_of (negsuc n) fit k h =
    let small : n < 2 ^ 32 = omega arith in
    let e : of_z w32 (negsuc n) ≡ bit_not w32 n = omega arith in
    ap (λ m. bit_at m k == 1) e ∙ ap (λ t. t == 1) (bit_at_not w32 n k small (omega arith)) ∙ turned (bit_at n k)

pub below_word : (x : ℤ) → FitsSigned w32 x → of_z w32 x < 2 ^ 32
below_word (pos n) fit = omega arith
below_word (negsuc n) fit = omega arith

-- two bits and their test
min_test : (t u : ℕ) → t < 2 → u < 2 → (min t u == 1) ≡ both (t == 1) (u == 1)
min_test zero zero g h = refl
min_test zero (suc zero) g h = refl
min_test (suc zero) zero g h = refl
min_test (suc zero) (suc zero) g h = refl
min_test (suc (suc t)) u g h = absurd (omega arith)
min_test t (suc (suc u)) g h = absurd (omega arith)

max_test : (t u : ℕ) → t < 2 → u < 2 → (max t u == 1) ≡ either (t == 1) (u == 1)
max_test zero zero g h = refl
max_test zero (suc zero) g h = refl
max_test (suc zero) zero g h = refl
max_test (suc zero) (suc zero) g h = refl
max_test (suc (suc t)) u g h = absurd (omega arith)
max_test t (suc (suc u)) g h = absurd (omega arith)

sum_test : (t u : ℕ) → t < 2 → u < 2 → ((t + u) % 2 == 1) ≡ one_alone (t == 1) (u == 1)
sum_test zero zero g h = refl
sum_test zero (suc zero) g h = refl
sum_test (suc zero) zero g h = refl
sum_test (suc zero) (suc zero) g h = refl
sum_test (suc (suc t)) u g h = absurd (omega arith)
sum_test t (suc (suc u)) g h = absurd (omega arith)

module _ (x y : ℤ) (fx : FitsSigned w32 x) (fy : FitsSigned w32 y) where
  bit_of_and : (k : ℕ) → k ≤ 31 → (bit_at (bit_and (of_z w32 x) (of_z w32 y)) k == 1) ≡ both (bit x k) (bit y k)
  bit_of_and k h =
      ap (λ t. t == 1) (bit_at_and (of_z w32 x) (of_z w32 y) k)
      ∙ min_test (bit_at (of_z w32 x) k) (bit_at (of_z w32 y) k) (bit_at-lt (of_z w32 x) k) (bit_at-lt (of_z w32 y) k)
      ∙ ap₂ both (bits_of x fx k h) (bits_of y fy k h)

  bit_of_or : (k : ℕ) → k ≤ 31 → (bit_at (bit_or (of_z w32 x) (of_z w32 y)) k == 1) ≡ either (bit x k) (bit y k)
  bit_of_or k h =
      ap (λ t. t == 1) (bit_at_or (of_z w32 x) (of_z w32 y) k)
      ∙ max_test (bit_at (of_z w32 x) k) (bit_at (of_z w32 y) k) (bit_at-lt (of_z w32 x) k) (bit_at-lt (of_z w32 y) k)
      ∙ ap₂ either (bits_of x fx k h) (bits_of y fy k h)

  bit_of_xor : (k : ℕ) → k ≤ 31 → (bit_at (bit_xor (of_z w32 x) (of_z w32 y)) k == 1) ≡ one_alone (bit x k) (bit y k)
  bit_of_xor k h =
      ap (λ t. t == 1) (bit_at_xor (of_z w32 x) (of_z w32 y) k)
      ∙ sum_test (bit_at (of_z w32 x) k) (bit_at (of_z w32 y) k) (bit_at-lt (of_z w32 x) k) (bit_at-lt (of_z w32 y) k)
      ∙ ap₂ one_alone (bits_of x fx k h) (bits_of y fy k h)

  pub and_machine : to_z w32 (bit_and (of_z w32 x) (of_z w32 y)) ≡ bitwise both x y
  and_machine = machine_number (bit_and (of_z w32 x) (of_z w32 y)) (λ k. both (bit x k) (bit y k)) (and_lt 32 (of_z w32 x) (of_z w32 y) (below_word x fx) (below_word y fy)) bit_of_and

  pub or_machine : to_z w32 (bit_or (of_z w32 x) (of_z w32 y)) ≡ bitwise either x y
  or_machine = machine_number (bit_or (of_z w32 x) (of_z w32 y)) (λ k. either (bit x k) (bit y k)) (or_lt 32 (of_z w32 x) (of_z w32 y) (below_word x fx) (below_word y fy)) bit_of_or

  pub xor_machine : to_z w32 (bit_xor (of_z w32 x) (of_z w32 y)) ≡ bitwise one_alone x y
  xor_machine = machine_number (bit_xor (of_z w32 x) (of_z w32 y)) (λ k. one_alone (bit x k) (bit y k)) (xor_lt 32 (of_z w32 x) (of_z w32 y) (below_word x fx) (below_word y fy)) bit_of_xor

  not_bit : (n k : ℕ) → n < 2 ^ 32 → k ≤ 31 → (bit_at (bit_not w32 n) k == 1) ≡ not (bit_at n k == 1)
  not_bit n k below h =
      ap (λ t. t == 1) (bit_at_not w32 n k below (omega arith)) ∙ turned (bit_at n k) ∙ is_zero_bit (bit_at n k) (bit_at-lt n k)

  bit_of_alike : (k : ℕ) → k ≤ 31 → (bit_at (bit_not w32 (bit_xor (of_z w32 x) (of_z w32 y))) k == 1) ≡ alike (bit x k) (bit y k)
  bit_of_alike k h = not_bit (bit_xor (of_z w32 x) (of_z w32 y)) k (xor_lt 32 (of_z w32 x) (of_z w32 y) (below_word x fx) (below_word y fy)) h ∙ ap not (bit_of_xor k h)

  pub alike_machine : to_z w32 (4294967295 - bit_xor (of_z w32 x) (of_z w32 y)) ≡ bitwise alike x y
  alike_machine = machine_number (bit_not w32 (bit_xor (of_z w32 x) (of_z w32 y))) (λ k. alike (bit x k) (bit y k)) (omega arith) bit_of_alike

  bit_of_implies : (k : ℕ) → k ≤ 31 → (bit_at (bit_or (bit_not w32 (of_z w32 x)) (of_z w32 y)) k == 1) ≡ implies (bit x k) (bit y k)
  bit_of_implies k h =
      ap (λ t. t == 1) (bit_at_or (bit_not w32 (of_z w32 x)) (of_z w32 y) k)
      ∙ max_test (bit_at (bit_not w32 (of_z w32 x)) k) (bit_at (of_z w32 y) k) (bit_at-lt (bit_not w32 (of_z w32 x)) k) (bit_at-lt (of_z w32 y) k)
      ∙ ap₂ either (not_bit (of_z w32 x) k (below_word x fx) h ∙ ap not (bits_of x fx k h)) (bits_of y fy k h)

  pub implies_machine : to_z w32 (bit_or (4294967295 - of_z w32 x) (of_z w32 y)) ≡ bitwise implies x y
  implies_machine = machine_number (bit_or (bit_not w32 (of_z w32 x)) (of_z w32 y)) (λ k. implies (bit x k) (bit y k)) (or_lt 32 (bit_not w32 (of_z w32 x)) (of_z w32 y) (omega arith) (below_word y fy)) bit_of_implies
