-- The .NET values of numbers of each kind.
use Rattle.std.proofs.Common.{◌≡◌, ℕ, arith, refl, Bool, true, false, cond, ℤ, pos, negsuc}
use Rattle.std.specs.Prelude.{if◌then◌else◌}
use Rattle.std.proofs.lemmas.Bool.Decides.{nat_tests}
use Rattle.vb6_meaning.specs.Answers.{Answer, gives, raises, outside, then_answer}
use Rattle.vb6_meaning.specs.declared.number.NumberKind.{NumberKind}
use Rattle.vb6_meaning.specs.declared.number.NumberKind.TheVariants as kinds
use Rattle.vb6_meaning.specs.Kinds as six
use Rattle.vb6_meaning.specs.Kinds.{fits, value, checked_value, is_byte, wider}
use Rattle.net_meaning.specs.declared.value.ValueN.{ValueN}
use Rattle.net_meaning.specs.declared.value.ValueN.TheVariants as n
use Rattle.net_meaning.specs.declared.whole.WholeKind.TheVariants.{Byte, Short, Integer}
use Rattle.net_meaning.specs.Whole.{is_whole, whole}
use Rattle.net_meaning.specs.ValueMatch.{Matches, IsTenThousandths, bytes, integers, longs, currencies}
use Rattle.net_meaning.specs.WrittenRows.{type_of_kind}
use Rattle.net_meaning.specs.SameValues.{Agrees}

-- a number of a kind and the value that is it
pub data NetNumber : NumberKind → ℤ → ValueN → Type 0 where
  byte_number : (m : ℕ) → fits kinds.Byte (pos m) ≡ true → NetNumber kinds.Byte (pos m) (n.Byte m)
  short_number : (z : ℤ) → fits kinds.Integer z ≡ true → NetNumber kinds.Integer z (n.Short z)
  integer_number : (z : ℤ) → fits kinds.Long z ≡ true → NetNumber kinds.Long z (n.Integer z)
  decimal_number : (z m : ℤ) (s : ℕ) → fits kinds.Currency z ≡ true → IsTenThousandths z m s → NetNumber kinds.Currency z (n.Decimal m s)

pub number_matches : (are_same : ℕ → ℕ → Bool) (k : NumberKind) (z : ℤ) (x : ValueN) → NetNumber k z x → Matches are_same (type_of_kind k) (value k z) x
number_matches are_same _ _ _ (byte_number m h) = bytes m h
number_matches are_same _ _ _ (short_number z h) = integers z h
number_matches are_same _ _ _ (integer_number z h) = longs z h
number_matches are_same _ _ _ (decimal_number z m s h e) = currencies z m s h e

-- answers

pub agrees_then : {A B C D : Type 0} (R : A → B → Type 0) (S : C → D → Type 0) (p : Answer A) (q : Answer B) (f : A → Answer C) (g : B → Answer D)
    → Agrees R p q → ((v : A) (w : B) → R v w → Agrees S (f v) (g w)) → Agrees S (then_answer p f) (then_answer q g)
agrees_then R S (gives v) q f g h next = rw h.1 (next v h.0 h.2)
agrees_then R S (raises e) q f g h next = rw h
agrees_then R S outside q f g h next = tt

pub agrees_test : {A B C : Type 0} (R : A → C → Type 0) (S : B → C → Type 0) (b : Bool) (v : A) (u : B) (e : ℕ) (q : Answer C)
    → ((w : C) → R v w → S u w) → Agrees R (cond b (gives v) (raises e)) q → Agrees S (cond b (gives u) (raises e)) q
agrees_test R S true v u e q leads h = (h.0, h.1, leads h.0 h.2)
agrees_test R S false v u e q leads h = h

pub valued : (are_same : ℕ → ℕ → Bool) (k : NumberKind) (z : ℤ) (b : Answer ValueN)
    → Agrees (NetNumber k) (six.checked k z) b → Agrees (Matches are_same (type_of_kind k)) (checked_value k z) b
valued are_same k z b h = agrees_test (NetNumber k) (Matches are_same (type_of_kind k)) (fits k z) z (value k z) 6 b (number_matches are_same k z) h

-- limits

pub byte_limits : (z : ℤ) → fits kinds.Byte z ≡ is_whole Byte z
byte_limits (pos m) = grind (arith, nat_tests)
byte_limits (negsuc m) = grind (arith, nat_tests)

pub short_limits : (z : ℤ) → fits kinds.Integer z ≡ is_whole Short z
short_limits (pos m) = grind (arith, nat_tests)
short_limits (negsuc m) = grind (arith, nat_tests)

pub integer_limits : (z : ℤ) → fits kinds.Long z ≡ is_whole Integer z
integer_limits (pos m) = grind (arith, nat_tests)
integer_limits (negsuc m) = grind (arith, nat_tests)

-- a checked number, by the test of its limits

limited : {A B : Type 0} (R : A → B → Type 0) (b c : Bool) (v : A) (w : B) → b ≡ c → (b ≡ true → R v w)
    → Agrees R (cond b (gives v) (raises 6)) (if c then gives w else raises 6)
limited R true true v w e h = (w, refl, h refl)
limited R true false v w e h = cc
limited R false true v w e h = cc
limited R false false v w e h = refl

pub byte_checked : (z : ℤ) → Agrees (NetNumber kinds.Byte) (six.checked kinds.Byte z) (whole Byte z)
byte_checked (pos m) = limited (NetNumber kinds.Byte) (fits kinds.Byte (pos m)) (is_whole Byte (pos m)) (pos m) (n.Byte m) (byte_limits (pos m)) (byte_number m)
byte_checked (negsuc m) = refl

pub short_checked : (z : ℤ) → Agrees (NetNumber kinds.Integer) (six.checked kinds.Integer z) (whole Short z)
short_checked z = limited (NetNumber kinds.Integer) (fits kinds.Integer z) (is_whole Short z) z (n.Short z) (short_limits z) (short_number z)

pub integer_checked : (z : ℤ) → Agrees (NetNumber kinds.Long) (six.checked kinds.Long z) (whole Integer z)
integer_checked z = limited (NetNumber kinds.Long) (fits kinds.Long z) (is_whole Integer z) z (n.Integer z) (integer_limits z) (integer_number z)
