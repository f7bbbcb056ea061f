-- The bits of numbers within the limits of a kind give a number within them.
use Rattle.std.proofs.Common.{◌≡◌, ℕ, zero, suc, ◌+◌, ◌*◌, ◌^◌, ◌<◌, ◌≤◌, Bool, true, false, ◌&&◌, ℤ, pos, negsuc, refl, sym, ap, ap₂, ◌∙◌, subst, arith}
use Rattle.std.specs.Prelude.{◌==◌}
use Rattle.std.specs.Int.Signed.{mag}
use Rattle.std.proofs.Math.Nat.{pow-suc}
use Rattle.std.proofs.lemmas.Nat.Bits.{bit_at_above}
use Rattle.vb6_meaning.specs.declared.number.NumberKind.{NumberKind}
use Rattle.vb6_meaning.specs.declared.number.NumberKind.TheVariants as kinds
use Rattle.vb6_meaning.specs.Bits.{bit, with_lowest, of_sign, from_bits, bitwise}
use Rattle.vb6_meaning.specs.Kinds.{fits, is_byte, whole}
use Rattle.vb6_meaning.specs.declared.bits.BitRule.{BitRule}
use Rattle.vb6_meaning.specs.declared.bits.BitRule.TheVariants as rules
use Rattle.vb6_meaning.specs.Rows.{bit_rule, sets_sign}
use Rattle.vb6_meaning.proofs.Limits.{not_true, within, back_within, byte_within, back_byte}

-- a number is as large as its bits below the sign allow
from_bits_mag : (w : ℕ) (b : ℕ → Bool) → mag (from_bits w b) < 2 ^ w
unfolding from_bits
from_bits_mag zero b = of_sign_mag (b 0)
  where
    of_sign_mag : (s : Bool) → mag (of_sign s) < 2 ^ 0
    of_sign_mag true = omega arith
    of_sign_mag false = omega arith
from_bits_mag (suc w) b = step (b 0) (from_bits w (λ k. b (suc k))) (from_bits_mag w (λ k. b (suc k)))
  where
    step : (s : Bool) (z : ℤ) → mag z < 2 ^ w → mag (with_lowest s z) < 2 ^ suc w
    step true (pos n) h = omega (arith, pow-suc 2 w)
    step false (pos n) h = omega (arith, pow-suc 2 w)
    step true (negsuc n) h = omega (arith, pow-suc 2 w)
    step false (negsuc n) h = omega (arith, pow-suc 2 w)

-- bits that are all alike
from_bits_alike : (j : ℕ) (b : ℕ → Bool) → ((i : ℕ) → b i ≡ b 0) → from_bits j b ≡ of_sign (b 0)
unfolding from_bits
from_bits_alike zero b same = refl
from_bits_alike (suc j) b same =
    ap (with_lowest (b 0)) (from_bits_alike j (λ k. b (suc k)) (λ i. same (suc i) ∙ sym (same 1)) ∙ ap of_sign (same 1)) ∙ signed (b 0)
  where
    signed : (s : Bool) → with_lowest s (of_sign s) ≡ of_sign s
    signed true = refl
    signed false = refl

-- further bits that are the sign's count for nothing
from_bits_narrow : (w j : ℕ) (b : ℕ → Bool) → ((i : ℕ) → b (w + i) ≡ b w) → from_bits (w + j) b ≡ from_bits w b
unfolding from_bits
from_bits_narrow zero j b same =
    let e : zero + j ≡ j = omega arith in let at : (i : ℕ) → i ≡ zero + i = λ i. omega arith in
    ap (λ m. from_bits m b) e ∙ from_bits_alike j b (λ i. ap b (at i) ∙ same i)
from_bits_narrow (suc w) j b same =
    let e : suc w + j ≡ suc (w + j) = omega arith in let at : (i : ℕ) → suc (w + i) ≡ suc w + i = λ i. omega arith in
    ap (λ m. from_bits m b) e ∙ ap (with_lowest (b 0)) (from_bits_narrow w j (λ k. b (suc k)) (λ i. ap b (at i) ∙ same i))

-- a number has its sign from its size on
bit_high : (w : ℕ) (z : ℤ) → mag z < 2 ^ w → (i : ℕ) → bit z (w + i) ≡ bit z w
bit_high w (pos n) h i = ap (λ t. t == 1) (bit_at_above n w (w + i) h (omega arith) ∙ sym (bit_at_above n w w h (omega arith)))
bit_high w (negsuc n) h i = ap (λ t. t == 0) (bit_at_above n w (w + i) h (omega arith) ∙ sym (bit_at_above n w w h (omega arith)))

-- of small numbers only the low bits count
narrow : (w j : ℕ) (f : Bool → Bool → Bool) (p q : ℤ) → w + j ≡ 31 → mag p < 2 ^ w → mag q < 2 ^ w → bitwise f p q ≡ from_bits w (λ k. f (bit p k) (bit q k))
narrow w j f p q e g h =
    ap (λ m. from_bits m (λ k. f (bit p k) (bit q k))) (sym e)
    ∙ from_bits_narrow w j (λ k. f (bit p k) (bit q k)) (λ i. ap₂ f (bit_high w p g i) (bit_high w q h i))

bits_within : (w j : ℕ) (f : Bool → Bool → Bool) (p q : ℤ) → w + j ≡ 31 → mag p < 2 ^ w → mag q < 2 ^ w → mag (bitwise f p q) < 2 ^ w
bits_within w j f p q e g h =
    let small = from_bits_mag w (λ k. f (bit p k) (bit q k)) in
    let P : ℤ → Type 0 = λ z. mag z < 2 ^ w in subst P (sym (narrow w j f p q e g h)) small

-- with a clear sign a number isn't negative
from_bits_positive : (w : ℕ) (b : ℕ → Bool) → b w ≡ false → (n : ℕ) × (from_bits w b ≡ pos n)
unfolding from_bits
from_bits_positive zero b e = (0, ap of_sign e)
from_bits_positive (suc w) b e = step (b 0) (from_bits_positive w (λ k. b (suc k)) e)
  where
    step : {z : ℤ} (s : Bool) → ((n : ℕ) × (z ≡ pos n)) → (n : ℕ) × (with_lowest s z ≡ pos n)
    step true (n, e) = (n * 2 + 1, ap (with_lowest true) e)
    step false (n, e) = (n * 2, ap (with_lowest false) e)

byte_bits : (f : Bool → Bool → Bool) (m n : ℕ) → f false false ≡ false → m ≤ 255 → n ≤ 255 → fits kinds.Byte (bitwise f (pos m) (pos n)) ≡ true
byte_bits f m n clear g h =
    let low : m < 2 ^ 8 = omega arith in let high : n < 2 ^ 8 = omega arith in
    let sign : f (bit (pos m) 8) (bit (pos n) 8) ≡ false =
    ap₂ f (ap (λ t. t == 1) (bit_at_above m 8 8 low (omega arith))) (ap (λ t. t == 1) (bit_at_above n 8 8 high (omega arith))) ∙ clear in
    let small : mag (bitwise f (pos m) (pos n)) < 2 ^ 8 = bits_within 8 23 f (pos m) (pos n) refl low high in
    let positive : (r : ℕ) × (bitwise f (pos m) (pos n) ≡ pos r) =
    (let found = from_bits_positive 8 (λ k. f (bit (pos m) k) (bit (pos n) k)) sign in (found.0, narrow 8 23 f (pos m) (pos n) refl low high ∙ found.1)) in
    let size : mag (pos positive.0) < 2 ^ 8 = (let P : ℤ → Type 0 = λ z. mag z < 2 ^ 8 in subst P positive.1 small) in
    ap (fits kinds.Byte) positive.1 ∙ back_byte positive.0 (omega arith)

-- And, Or and Xor of two Bytes leave the sign clear
pub bits_fit : (k : NumberKind) (f : Bool → Bool → Bool) (p q : ℤ) → (is_byte k ≡ true → f false false ≡ false) → whole k ≡ k → fits k p ≡ true → fits k q ≡ true → fits k (bitwise f p q) ≡ true
bits_fit kinds.Byte f (pos m) (pos n) clear e g h = byte_bits f m n (clear refl) (byte_within m g) (byte_within n h)
bits_fit kinds.Byte f (pos m) (negsuc n) clear e g h = absurd (not_true h)
bits_fit kinds.Byte f (negsuc m) q clear e g h = absurd (not_true g)
bits_fit kinds.Integer f p q clear e g h =
    let le = within 32767 p g in let le_other = within 32767 q h in
    let small = bits_within 15 16 f p q refl (omega arith) (omega arith) in back_within 32767 (bitwise f p q) (omega arith)
bits_fit kinds.Long f p q clear e g h =
    let le = within 2147483647 p g in let le_other = within 2147483647 q h in
    let small = bits_within 31 0 f p q refl (omega arith) (omega arith) in back_within 2147483647 (bitwise f p q) (omega arith)
bits_fit kinds.Currency f p q clear e g h = absurd (cc)

-- a rule that sets no clear sign
clear_sign : (rule : BitRule) (k : NumberKind) → (sets_sign rule && is_byte k) ≡ false → is_byte k ≡ true → bit_rule rule false false ≡ false
clear_sign rules.Both k e f = refl
clear_sign rules.Either k e f = refl
clear_sign rules.OneAlone k e f = refl
clear_sign rules.Alike k e f = absurd (not_true (sym e ∙ f))
clear_sign rules.Implies k e f = absurd (not_true (sym e ∙ f))

pub rule_fits : (k : NumberKind) (rule : BitRule) (p q : ℤ) → whole k ≡ k → (sets_sign rule && is_byte k) ≡ false → fits k p ≡ true → fits k q ≡ true → fits k (bitwise (bit_rule rule) p q) ≡ true
rule_fits k rule p q e f g h = bits_fit k (bit_rule rule) p q (clear_sign rule k f) e g h
