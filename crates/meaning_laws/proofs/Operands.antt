-- Numbers as operands, and what is written to convert them.
use Rattle.std.proofs.Common.{◌≡◌, ℕ, suc, ◌+◌, ◌*◌, ◌-◌, ◌^◌, ◌<◌, ◌≤◌, lit≤, arith, sym, ◌∙◌, ap, subst, refl, Bool, true, false, cond, ℤ, pos, negsuc, neg_ℤ, ◌*ℤ◌, unsigned_abs}
use Rattle.std.specs.Prelude.{nat_le, if◌then◌else◌}
use Rattle.std.proofs.Math.IntN.{*ℤ_comm}
use Rattle.std.proofs.Math.Nat.{le-mul_of_pos_right}
use Rattle.std.proofs.lemmas.Int.{unsigned_abs-mul}
use Rattle.std.proofs.lemmas.Bool.Decides.{nat_tests}
use Rattle.vb_tree.specs.BoundTree as types
use Rattle.vb_tree.specs.BoundTree.{Ty}
use Rattle.vb6_meaning.specs.Answers.{Answer, gives, raises, outside, then_answer}
use Rattle.vb6_meaning.specs.Rounding.{rounded}
use Rattle.vb6_meaning.specs.declared.number.Number.{Number}
use Rattle.vb6_meaning.specs.declared.number.NumberKind.{NumberKind}
use Rattle.vb6_meaning.specs.declared.number.NumberKind.TheVariants as kinds
use Rattle.vb6_meaning.specs.Kinds as six
use Rattle.vb6_meaning.specs.Kinds.{fits, is_byte, rank}
use Rattle.vb6_meaning.specs.Numbers.{of_kind, amount_in}
use Rattle.net_meaning.specs.declared.value.ValueN.{ValueN}
use Rattle.net_meaning.specs.declared.value.ValueN.TheVariants as n
use Rattle.net_meaning.specs.declared.whole.WholeKind.{WholeKind}
use Rattle.net_meaning.specs.declared.whole.WholeKind.TheVariants.{Byte, Short, Integer}
use Rattle.net_meaning.specs.Whole.{whole}
use Rattle.net_meaning.specs.Decimals.{is_decimal}
use Rattle.net_meaning.specs.Conversions.{decimal_to_whole, coerce_net}
use Rattle.net_meaning.specs.ValueMatch.{IsTenThousandths}
use Rattle.net_meaning.specs.WrittenRows.{Row, evaluate, cast, as_kind, is_of_kind, word_of_kind, cast_type, is_boolean}
use Rattle.net_meaning.specs.SameValues.{Agrees}
use Rattle.net_meaning.proofs.Powers.{power_positive}
use Rattle.meaning_laws.proofs.NetNumbers.{NetNumber, byte_number, short_number, integer_number, decimal_number, byte_checked, short_checked, integer_checked}
use Rattle.meaning_laws.proofs.RoundingScales.{rounded_decimal}

-- an operand of a numeric type, the number that it is, and its value
pub data Operand : Ty → Number → ValueN → Type 0 where
  false_operand : Operand types.boolean (of_kind kinds.Integer (pos 0)) (n.Boolean false)
  true_operand : Operand types.boolean (of_kind kinds.Integer (negsuc 0)) (n.Boolean true)
  byte_operand : (m : ℕ) → fits kinds.Byte (pos m) ≡ true → Operand types.byte (of_kind kinds.Byte (pos m)) (n.Byte m)
  integer_operand : (z : ℤ) → fits kinds.Integer z ≡ true → Operand types.integer (of_kind kinds.Integer z) (n.Short z)
  long_operand : (z : ℤ) → fits kinds.Long z ≡ true → Operand types.long (of_kind kinds.Long z) (n.Integer z)
  currency_operand : (z m : ℤ) (s : ℕ) → fits kinds.Currency z ≡ true → IsTenThousandths z m s
      → Operand types.currency (of_kind kinds.Currency z) (n.Decimal m s)

-- an operand converted to a kind as it is written
abbrev pub as_value : NumberKind → Ty → ValueN → Answer ValueN
as_value k s x = if is_of_kind k s then gives x else coerce_net x (cast_type (word_of_kind k))

pub as_kind_value : (k : NumberKind) (s : Ty) (r : Row) (x y v : ValueN) → evaluate r x y ≡ gives v → evaluate (as_kind k s r) x y ≡ as_value k s v
as_kind_value k s r x y v e = by_test (is_of_kind k s)
  where
    by_test : (b : Bool) → evaluate (if b then r else cast (word_of_kind k) r) x y ≡ (if b then gives v else coerce_net v (cast_type (word_of_kind k)))
    by_test true = e
    by_test false = ap (λ a. then_answer a (λ v. coerce_net v (cast_type (word_of_kind k)))) e

-- limits of wider kinds

pub long_from_integer : (z : ℤ) → fits kinds.Integer z ≡ true → fits kinds.Long z ≡ true
long_from_integer (pos m) h = grind (arith, nat_tests)
long_from_integer (negsuc m) h = grind (arith, nat_tests)

integer_from_byte : (m : ℕ) → fits kinds.Byte (pos m) ≡ true → fits kinds.Integer (pos m) ≡ true
integer_from_byte m h = grind (arith, nat_tests)

pub long_from_byte : (m : ℕ) → fits kinds.Byte (pos m) ≡ true → fits kinds.Long (pos m) ≡ true
long_from_byte m h = grind (arith, nat_tests)

pub currency_from_long : (z : ℤ) → fits kinds.Long z ≡ true → fits kinds.Currency (pos 10000 *ℤ z) ≡ true
currency_from_long (pos m) h = grind (arith, nat_tests)
currency_from_long (negsuc m) h =
    let e : 10000 * suc m ≡ suc (10000 * m + 9999) = omega arith in
    ap (λ k. fits kinds.Currency (neg_ℤ (pos k))) e ∙ grind (arith, nat_tests)

pub currency_size : (z : ℤ) → fits kinds.Currency z ≡ true → unsigned_abs z ≤ 2 ^ 63
currency_size (pos m) h = grind (arith, nat_tests)
currency_size (negsuc m) h = grind (arith, nat_tests)

pub currency_is_decimal : (z m : ℤ) (s : ℕ) → fits kinds.Currency z ≡ true → IsTenThousandths z m s → is_decimal m s ≡ true
currency_is_decimal z m s h e =
    let size = ap unsigned_abs (sym e.1) ∙ unsigned_abs-mul m (pos (10 ^ (4 - s))) in
    let least = le-mul_of_pos_right (unsigned_abs m) (power_positive (4 - s)) in
    let bound = currency_size z h in
    let small : unsigned_abs m < 2 ^ 96 = omega (arith, size, least, bound) in
    let scale : s ≤ 28 = omega (arith, e.0) in
    grind (arith, nat_tests)

-- a number is within the limits of each kind that is no narrower
pub widened : (k : NumberKind) (s : Ty) (N : Number) (x : ValueN) → Operand s N x → nat_le (rank N.kind) (rank k) ≡ true → fits k (amount_in k N) ≡ true
widened kinds.Byte _ _ _ false_operand h = cc
widened kinds.Byte _ _ _ true_operand h = cc
widened kinds.Byte _ _ _ (byte_operand m e) h = e
widened kinds.Byte _ _ _ (integer_operand z e) h = cc
widened kinds.Byte _ _ _ (long_operand z e) h = cc
widened kinds.Byte _ _ _ (currency_operand z m s e d) h = cc
widened kinds.Integer _ _ _ false_operand h = refl
widened kinds.Integer _ _ _ true_operand h = refl
widened kinds.Integer _ _ _ (byte_operand m e) h = integer_from_byte m e
widened kinds.Integer _ _ _ (integer_operand z e) h = e
widened kinds.Integer _ _ _ (long_operand z e) h = cc
widened kinds.Integer _ _ _ (currency_operand z m s e d) h = cc
widened kinds.Long _ _ _ false_operand h = refl
widened kinds.Long _ _ _ true_operand h = refl
widened kinds.Long _ _ _ (byte_operand m e) h = long_from_byte m e
widened kinds.Long _ _ _ (integer_operand z e) h = long_from_integer z e
widened kinds.Long _ _ _ (long_operand z e) h = e
widened kinds.Long _ _ _ (currency_operand z m s e d) h = cc
widened kinds.Currency _ _ _ false_operand h = refl
widened kinds.Currency _ _ _ true_operand h = refl
widened kinds.Currency _ _ _ (byte_operand m e) h = currency_from_long (pos m) (long_from_byte m e)
widened kinds.Currency _ _ _ (integer_operand z e) h = currency_from_long z (long_from_integer z e)
widened kinds.Currency _ _ _ (long_operand z e) h = currency_from_long z e
widened kinds.Currency _ _ _ (currency_operand z m s e d) h = e

-- conversions

absurd_test : false ≡ true → ⊥
absurd_test e = cc

held : {A B : Type 0} (R : A → B → Type 0) (b : Bool) (v : A) (w : B) → b ≡ true → R v w → Agrees R (cond b (gives v) (raises 6)) (gives w)
held R true v w e h = (w, refl, h)
held R false v w e h = cc

to_currency : (z : ℤ) → fits kinds.Long z ≡ true → Agrees (NetNumber kinds.Currency) (six.checked kinds.Currency (pos 10000 *ℤ z)) (gives (n.Decimal z 0))
to_currency z h =
    held (NetNumber kinds.Currency) (fits kinds.Currency (pos 10000 *ℤ z)) (pos 10000 *ℤ z) (n.Decimal z 0) (currency_from_long z h)
    (decimal_number (pos 10000 *ℤ z) z 0 (currency_from_long z h) (lit≤ tt, *ℤ_comm z (pos 10000)))

from_decimal : {A : Type 0} (R : A → ValueN → Type 0) (a : Answer A) (K : WholeKind) (z m : ℤ) (s : ℕ) → fits kinds.Currency z ≡ true → IsTenThousandths z m s
    → Agrees R a (whole K (rounded z 10000)) → Agrees R a (decimal_to_whole K m s)
from_decimal R a K z m s h e at_whole =
    let same : decimal_to_whole K m s ≡ whole K (rounded z 10000) =
    ap (λ b. if b then whole K (rounded m (10 ^ s)) else outside) (currency_is_decimal z m s h e) ∙ ap (whole K) (sym (rounded_decimal z m s e)) in
    subst (λ q. Agrees R a q) (sym same) at_whole

-- an operand converted to a kind is its amount in that kind; a Boolean is never converted to a Byte here
pub operand_to : (k : NumberKind) (s : Ty) (N : Number) (x : ValueN) → Operand s N x → (is_byte k ≡ true → is_boolean s ≡ false)
    → Agrees (NetNumber k) (six.checked k (amount_in k N)) (as_value k s x)
operand_to kinds.Byte _ _ _ false_operand h = absurd (absurd_test (sym (h refl)))
operand_to kinds.Byte _ _ _ true_operand h = absurd (absurd_test (sym (h refl)))
operand_to kinds.Byte _ _ _ (byte_operand m e) h = held (NetNumber kinds.Byte) (fits kinds.Byte (pos m)) (pos m) (n.Byte m) e (byte_number m e)
operand_to kinds.Byte _ _ _ (integer_operand z e) h = byte_checked z
operand_to kinds.Byte _ _ _ (long_operand z e) h = byte_checked z
operand_to kinds.Byte _ _ _ (currency_operand z m s e d) h = from_decimal (NetNumber kinds.Byte) (six.checked kinds.Byte (rounded z 10000)) Byte z m s e d (byte_checked (rounded z 10000))
operand_to kinds.Integer _ _ _ false_operand h = (n.Short (pos 0), refl, short_number (pos 0) refl)
operand_to kinds.Integer _ _ _ true_operand h = (n.Short (negsuc 0), refl, short_number (negsuc 0) refl)
operand_to kinds.Integer _ _ _ (byte_operand m e) h = short_checked (pos m)
operand_to kinds.Integer _ _ _ (integer_operand z e) h = held (NetNumber kinds.Integer) (fits kinds.Integer z) z (n.Short z) e (short_number z e)
operand_to kinds.Integer _ _ _ (long_operand z e) h = short_checked z
operand_to kinds.Integer _ _ _ (currency_operand z m s e d) h = from_decimal (NetNumber kinds.Integer) (six.checked kinds.Integer (rounded z 10000)) Short z m s e d (short_checked (rounded z 10000))
operand_to kinds.Long _ _ _ false_operand h = (n.Integer (pos 0), refl, integer_number (pos 0) refl)
operand_to kinds.Long _ _ _ true_operand h = (n.Integer (negsuc 0), refl, integer_number (negsuc 0) refl)
operand_to kinds.Long _ _ _ (byte_operand m e) h = integer_checked (pos m)
operand_to kinds.Long _ _ _ (integer_operand z e) h = integer_checked z
operand_to kinds.Long _ _ _ (long_operand z e) h = held (NetNumber kinds.Long) (fits kinds.Long z) z (n.Integer z) e (integer_number z e)
operand_to kinds.Long _ _ _ (currency_operand z m s e d) h = from_decimal (NetNumber kinds.Long) (six.checked kinds.Long (rounded z 10000)) Integer z m s e d (integer_checked (rounded z 10000))
operand_to kinds.Currency _ _ _ false_operand h = (n.Decimal (pos 0) 0, refl, decimal_number (pos 0) (pos 0) 0 refl (lit≤ tt, refl))
operand_to kinds.Currency _ _ _ true_operand h = (n.Decimal (negsuc 0) 0, refl, decimal_number (negsuc 9999) (negsuc 0) 0 refl (lit≤ tt, refl))
operand_to kinds.Currency _ _ _ (byte_operand m e) h = to_currency (pos m) (long_from_byte m e)
operand_to kinds.Currency _ _ _ (integer_operand z e) h = to_currency z (long_from_integer z e)
operand_to kinds.Currency _ _ _ (long_operand z e) h = to_currency z e
operand_to kinds.Currency _ _ _ (currency_operand z m s e d) h = held (NetNumber kinds.Currency) (fits kinds.Currency z) z (n.Decimal m s) e (decimal_number z m s e d)

byte_is_no_boolean : (s : Ty) (N : Number) (x : ValueN) → Operand s N x → is_byte N.kind ≡ true → is_boolean s ≡ false
byte_is_no_boolean _ _ _ false_operand h = cc
byte_is_no_boolean _ _ _ true_operand h = cc
byte_is_no_boolean _ _ _ (byte_operand m e) h = refl
byte_is_no_boolean _ _ _ (integer_operand z e) h = refl
byte_is_no_boolean _ _ _ (long_operand z e) h = refl
byte_is_no_boolean _ _ _ (currency_operand z m s e d) h = refl

pub operand_as : (k : NumberKind) (s : Ty) (N : Number) (x : ValueN) → Operand s N x → (is_byte k ≡ true → is_byte N.kind ≡ true)
    → Agrees (NetNumber k) (six.checked k (amount_in k N)) (as_value k s x)
operand_as k s N x o h = operand_to k s N x o (λ b. byte_is_no_boolean s N x o (h b))

-- in a kind that is no narrower an operand has a value
pub operand_wide : (k : NumberKind) (s : Ty) (N : Number) (x : ValueN) → Operand s N x → nat_le (rank N.kind) (rank k) ≡ true
    → (v : ValueN) × (as_value k s x ≡ gives v) × NetNumber k (amount_in k N) v
operand_wide k s N x o h =
    let same : six.checked k (amount_in k N) ≡ gives (amount_in k N) =
    ap (λ b. cond b (gives (amount_in k N)) (raises 6)) (widened k s N x o h) in
    subst (λ a. Agrees (NetNumber k) a (as_value k s x)) same (operand_as k s N x o (wide_byte k N.kind h))
  where
    wide_byte : (k l : NumberKind) → nat_le (rank l) (rank k) ≡ true → is_byte k ≡ true → is_byte l ≡ true
    wide_byte kinds.Byte kinds.Byte h e = refl
    wide_byte kinds.Byte kinds.Integer h e = cc
    wide_byte kinds.Byte kinds.Long h e = cc
    wide_byte kinds.Byte kinds.Currency h e = cc
    wide_byte kinds.Integer l h e = cc
    wide_byte kinds.Long l h e = cc
    wide_byte kinds.Currency l h e = cc
