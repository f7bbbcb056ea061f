-- What digits come to.
use Rattle.std.proofs.Common.{◌≡◌, ℕ, suc, ◌+◌, ◌*◌, ◌^◌, ◌<◌, ◌≤◌, true, false, nat_le, None, List, [], ◌∷◌, length, get_or, drop, arith, refl, lit<}
use Rattle.std.specs.List.{list_all}
use Rattle.std.proofs.Math.Nat.{mul-le-mul_left, pow-suc, pow-zero, pow-le-pow_right}
use Rattle.std.proofs.Math.Seq.{drop-cons}
use Rattle.std.proofs.lemmas.Bool.Decides.{nat_tests}
use Rattle.vb_tree.specs.declared.token.Suffix.{Suffix}
use Rattle.vb_tree.specs.declared.token.Suffix.TheVariants as suffix
use Rattle.vb_tree.specs.Tokens.{value_from, digit_value, is_digit, is_digit_of, run, radix_value}
use Rattle.vb_lexer.proofs.Runs.{both_true}

-- more digits make no smaller number
pub not_below : (base n : ℕ) (digits : List ℕ) → 0 < base → n ≤ value_from base n digits
not_below base n [] h = omega arith
not_below base n (c ∷ cs) h =
    let more : n * base + digit_value c ≤ value_from base (n * base + digit_value c) cs = not_below base (n * base + digit_value c) cs h in
    let times : n * 1 ≤ n * base = mul-le-mul_left n (omega arith) in
    omega arith

pub past_limit : (base n i most : ℕ) (digits : List ℕ) → 0 < base → i < length digits
    → most < n * base + digit_value (get_or digits i 0)
    → value_from base n (drop i digits) ≡ value_from base 0 digits → most < value_from base 0 digits
past_limit base n i most digits h within above whole =
    let next = rw (drop-cons digits i 0 within) at whole in
    let more : n * base + digit_value (get_or digits i 0) ≤ value_from base (n * base + digit_value (get_or digits i 0)) (drop (suc i) digits) = not_below base _ (drop (suc i) digits) h in
    omega arith

-- what digits stand for is below the power of their number
pub below_power : (n : ℕ) (digits : List ℕ) → list_all is_digit digits ≡ true → value_from 10 n digits < (n + 1) * 10 ^ length digits
below_power n [] h = rw pow-zero (omega arith)
below_power n (c ∷ cs) h =
    let parts = both_true (is_digit c) (list_all is_digit cs) h in
    let d : digit_value c < 10 = grind (arith, nat_tests, parts.0) in
    let rest : value_from 10 (n * 10 + digit_value c) cs < (n * 10 + digit_value c + 1) * 10 ^ length cs = below_power (n * 10 + digit_value c) cs parts.1 in
    let times : (10 ^ length cs) * (n * 10 + digit_value c + 1) ≤ (10 ^ length cs) * ((n + 1) * 10) = mul-le-mul_left (10 ^ length cs) (omega arith) in
    let power : 10 ^ suc (length cs) ≡ 10 ^ length cs * 10 = pow-suc 10 (length cs) in
    rw power (omega arith)

below_within : (most : ℕ) (digits : List ℕ) → list_all is_digit digits ≡ true → length digits ≤ most → value_from 10 0 digits < 10 ^ most
below_within most digits h few =
    let all : value_from 10 0 digits < 1 * 10 ^ length digits = below_power 0 digits h in
    let powers : 10 ^ length digits ≤ 10 ^ most = pow-le-pow_right (lit< tt) few in
    omega arith

pub ten_digits : (digits : List ℕ) → list_all is_digit digits ≡ true → length digits ≤ 10 → value_from 10 0 digits ≤ 9999999999
ten_digits digits h few = let all : value_from 10 0 digits < 10000000000 = below_within 10 digits h few in omega arith

pub four_digits : (digits : List ℕ) → list_all is_digit digits ≡ true → length digits ≤ 4 → value_from 10 0 digits ≤ 9999
four_digits digits h few = let all : value_from 10 0 digits < 10000 = below_within 4 digits h few in omega arith

-- no digit is one of base 0
pub no_digits : (units : List ℕ) → run (is_digit_of 0) units ≡ 0
no_digits [] = refl
no_digits (c ∷ cs) = let e : is_digit_of 0 c ≡ false = grind (arith, nat_tests) in rw e refl

-- no hexadecimal number has more than 32 bits
pub too_large : (n : ℕ) (s : Suffix) → 4294967295 < n → radix_value n s ≡ None
unfolding radix_value
too_large n suffix.Absent h = let e : nat_le n 65535 ≡ false = grind (arith, nat_tests) in let f : nat_le n 4294967295 ≡ false = grind (arith, nat_tests) in rw (e, f) refl
too_large n suffix.Integer h = let e : nat_le n 65535 ≡ false = grind (arith, nat_tests) in rw e refl
too_large n suffix.Long h = let f : nat_le n 4294967295 ≡ false = grind (arith, nat_tests) in rw f refl
too_large n suffix.Currency h = refl
too_large n suffix.Str h = refl
too_large n suffix.Single h = refl
too_large n suffix.Double h = refl
