-- Which results stay within the limits of a kind.
use Rattle.std.proofs.Common.{◌≡◌, ℕ, zero, suc, ◌/◌, ◌%◌, ◌^◌, ◌<◌, ◌≤◌, Bool, true, false, ◌&&◌, ℤ, pos, negsuc, refl, sym, ap, ◌∙◌, ⊎_elim, arith, FitsSigned, w32}
use Rattle.std.specs.Prelude.{nat_le, int_div, int_rem, int_le, neg_ℤ, unsigned_abs}
use Rattle.std.specs.Ordering.{int_eq}
use Rattle.std.specs.Int.Signed.{mag, mag_rem}
use Rattle.std.proofs.lemmas.Bool.Decides.{nat_tests, Decides-int_eq}
use Rattle.std.proofs.Math.Nat.{div-le_of_le-mul, div-le_self, div-eq_of_lt, mod-le, eq-or-lt_of_le}
use Rattle.vb6_meaning.specs.declared.number.NumberKind.{NumberKind}
use Rattle.vb6_meaning.specs.declared.number.NumberKind.TheVariants as kinds
use Rattle.vb6_meaning.specs.Kinds.{least, fits, is_byte, whole}
use Rattle.vb6_meaning.specs.Values.{complement}

pub not_true : false ≡ true → ⊥
not_true e = cc

and_true : (b : Bool) → (b && true) ≡ b
and_true true = refl
and_true false = refl

-- limits that are as far on both sides
fits_by_mag : (h : ℕ) (z : ℤ) → (int_le (negsuc h) z && int_le z (pos h)) ≡ nat_le (mag z) h
fits_by_mag h (pos n) = refl
fits_by_mag h (negsuc n) = and_true (nat_le n h)

pub within : (h : ℕ) (z : ℤ) → (int_le (negsuc h) z && int_le z (pos h)) ≡ true → mag z ≤ h
within h z e = let f : nat_le (mag z) h ≡ true = sym (fits_by_mag h z) ∙ e in grind (arith, nat_tests)

pub back_within : (h : ℕ) (z : ℤ) → mag z ≤ h → (int_le (negsuc h) z && int_le z (pos h)) ≡ true
back_within h z le = fits_by_mag h z ∙ (let f : nat_le (mag z) h ≡ true = grind (arith, nat_tests) in f)

pub byte_within : (n : ℕ) → fits kinds.Byte (pos n) ≡ true → n ≤ 255
byte_within n e = grind (arith, nat_tests)

pub back_byte : (n : ℕ) → n ≤ 255 → fits kinds.Byte (pos n) ≡ true
back_byte n le = grind (arith, nat_tests)

mag_neg : (r a : ℕ) → r ≤ suc a → mag (neg_ℤ (pos r)) ≤ a
mag_neg zero a le = omega arith
mag_neg (suc r) a le = omega arith

half_or_less : (a b : ℕ) → suc a / suc (suc b) ≤ a
half_or_less zero b = let small : suc zero < suc (suc b) = omega arith in let none : suc zero / suc (suc b) ≡ 0 = div-eq_of_lt small in omega arith
half_or_less (suc a) b = div-le_of_le-mul (suc (suc b)) (omega arith)

quotient_mag : (h : ℕ) (p q : ℤ) → mag p ≤ h → (q ≡ negsuc 0 → p ≡ negsuc h → ⊥) → mag (int_div p q) ≤ h
quotient_mag h (pos a) (pos b) le no_least = let small : a / b ≤ a = omega arith in omega arith
quotient_mag h (pos a) (negsuc b) le no_least = let small : a / suc b ≤ a = omega arith in mag_neg (a / suc b) h (omega arith)
quotient_mag h (negsuc a) (pos b) le no_least = let small : suc a / b ≤ suc a = omega arith in mag_neg (suc a / b) h (omega arith)
quotient_mag h (negsuc a) (negsuc zero) le no_least =
    ⊎_elim (λ e. absurd (no_least refl (ap negsuc e))) (λ l. let small : suc a / 1 ≤ suc a = omega arith in omega arith) (eq-or-lt_of_le le)
quotient_mag h (negsuc a) (negsuc (suc b)) le no_least = let small = half_or_less a b in omega arith

-- tests of the operands
both_tests : (a b : Bool) → (a && b) ≡ true → (a ≡ true) × (b ≡ true)
both_tests true b e = (refl, e)
both_tests false b e = absurd (not_true e)

by_least : (k : NumberKind) (p q : ℤ) → (int_eq q (negsuc 0) && int_eq p (least k)) ≡ false → q ≡ negsuc 0 → p ≡ least k → ⊥
by_least k p q e f g = let t : int_eq q (negsuc 0) ≡ true = (Decides-int_eq q (negsuc 0)).1 f in let u : int_eq p (least k) ≡ true = (Decides-int_eq p (least k)).1 g in
    let both : (int_eq q (negsuc 0) && int_eq p (least k)) ≡ true = rw (t, u) in
    let no : false ≡ true = sym e ∙ both in cc

-- a quotient stays within the limits, but for the least value by -1
pub quotient_fits : (k : NumberKind) (p q : ℤ) → fits k p ≡ true → fits k q ≡ true → (int_eq q (negsuc 0) && int_eq p (least k)) ≡ false → fits k (int_div p q) ≡ true
quotient_fits kinds.Byte (pos a) (pos b) f g e =
    let small : a / b ≤ a = div-le_self a b in let le = byte_within a f in back_byte (a / b) (omega arith)
quotient_fits kinds.Byte (pos a) (negsuc b) f g e = absurd (not_true g)
quotient_fits kinds.Byte (negsuc a) q f g e = absurd (not_true f)
quotient_fits kinds.Integer p q f g e = back_within 32767 (int_div p q) (quotient_mag 32767 p q (within 32767 p f) (by_least kinds.Integer p q e))
quotient_fits kinds.Long p q f g e = back_within 2147483647 (int_div p q) (quotient_mag 2147483647 p q (within 2147483647 p f) (by_least kinds.Long p q e))
quotient_fits kinds.Currency p q f g e = back_within 9223372036854775807 (int_div p q) (quotient_mag 9223372036854775807 p q (within 9223372036854775807 p f) (by_least kinds.Currency p q e))

-- a remainder stays within the limits
pub remainder_fits : (k : NumberKind) (p q : ℤ) → fits k p ≡ true → fits k (int_rem p q) ≡ true
remainder_fits kinds.Byte (pos a) q f =
    let small : a % unsigned_abs q ≤ a = mod-le a (unsigned_abs q) in let le = byte_within a f in back_byte (a % unsigned_abs q) (omega arith)
remainder_fits kinds.Byte (negsuc a) q f = absurd (not_true f)
remainder_fits kinds.Integer p q f = back_within 32767 (int_rem p q) (let small = mag_rem p q in let le = within 32767 p f in omega arith)
remainder_fits kinds.Long p q f = back_within 2147483647 (int_rem p q) (let small = mag_rem p q in let le = within 2147483647 p f in omega arith)
remainder_fits kinds.Currency p q f = back_within 9223372036854775807 (int_rem p q) (let small = mag_rem p q in let le = within 9223372036854775807 p f in omega arith)

turned_mag : (p : ℤ) (h : ℕ) → mag p ≤ h → mag (complement p) ≤ h
turned_mag (pos n) h le = le
turned_mag (negsuc n) h le = le

-- so does a number with all bits turned, where the kind has a sign
pub complement_fits : (k : NumberKind) (p : ℤ) → is_byte k ≡ false → fits k p ≡ true → fits k (complement p) ≡ true
complement_fits kinds.Byte p e f = absurd (not_true (sym e))
complement_fits kinds.Integer p e f = back_within 32767 (complement p) (let le = within 32767 p f in turned_mag p 32767 le)
complement_fits kinds.Long p e f = back_within 2147483647 (complement p) (let le = within 2147483647 p f in turned_mag p 2147483647 le)
complement_fits kinds.Currency p e f = back_within 9223372036854775807 (complement p) (let le = within 9223372036854775807 p f in turned_mag p 9223372036854775807 le)

size_by_mag : (p : ℤ) (h : ℕ) → mag p ≤ h → h < 2 ^ 63 → unsigned_abs p ≤ 2 ^ 63
size_by_mag (pos n) h le small = omega arith
size_by_mag (negsuc n) h le small = omega arith

-- numbers within the limits of some kind are no larger than the largest
pub fits_size : (k : NumberKind) (p : ℤ) → fits k p ≡ true → unsigned_abs p ≤ 2 ^ 63
fits_size kinds.Byte (pos n) f = let le = byte_within n f in omega arith
fits_size kinds.Byte (negsuc n) f = absurd (not_true f)
fits_size kinds.Integer p f = size_by_mag p 32767 (within 32767 p f) (omega arith)
fits_size kinds.Long p f = size_by_mag p 2147483647 (within 2147483647 p f) (omega arith)
fits_size kinds.Currency p f = size_by_mag p 9223372036854775807 (within 9223372036854775807 p f) (omega arith)

-- whole numbers within the limits have 32 bits
pub fits_word : (k : NumberKind) (p : ℤ) → whole k ≡ k → fits k p ≡ true → FitsSigned w32 p
fits_word kinds.Byte (pos n) e f = let le = byte_within n f in record { sfits = omega arith }
fits_word kinds.Byte (negsuc n) e f = absurd (not_true f)
fits_word kinds.Integer p e f = let le = within 32767 p f in record { sfits = omega arith }
fits_word kinds.Long p e f = let le = within 2147483647 p f in record { sfits = omega arith }
fits_word kinds.Currency p e f = absurd (cc)
