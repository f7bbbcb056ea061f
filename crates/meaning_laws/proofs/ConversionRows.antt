-- Conversions, minus and Not.
use Rattle.std.proofs.Common.{◌≡◌, ℕ, arith, refl, sym, ◌∙◌, ap, subst, Bool, true, false, not, cond, Option, Some, None, ℤ, pos, negsuc}
use Rattle.std.specs.Prelude.{if◌then◌else◌}
use Rattle.vb_tree.specs.BoundTree as types
use Rattle.vb_tree.specs.BoundTree.{Ty}
use Rattle.vb_tree.specs.declared.value.Value6.{Value6}
use Rattle.vb6_meaning.specs.Answers.{Answer, gives, outside, then_answer}
use Rattle.vb6_meaning.specs.declared.number.Number.{Number}
use Rattle.vb6_meaning.specs.declared.number.NumberKind.{NumberKind}
use Rattle.vb6_meaning.specs.declared.number.NumberKind.TheVariants as kinds
use Rattle.vb6_meaning.specs.Kinds as limits
use Rattle.vb6_meaning.specs.Kinds.{fits, is_byte, least, rank, wider, whole, value}
use Rattle.vb6_meaning.specs.Numbers.{amount_in}
use Rattle.vb6_meaning.specs.Values as six
use Rattle.net_meaning.specs.declared.value.ValueN.{ValueN}
use Rattle.net_meaning.specs.declared.value.ValueN.TheVariants as n
use Rattle.net_meaning.specs.ValueMatch.{Matches, booleans, bytes, integers, longs, currencies, texts, empty_text, fixed_texts, no_object, no_object_of, nothing, objects, objects_of, in_variant_empty, in_variant_boolean, in_variant_byte, in_variant_integer, in_variant_long, in_variant_currency, in_variant_text}
use Rattle.std.proofs.Common.{List, [], length, inl, inr, ◌*ℤ◌, neg_ℤ, zero, suc, ◌*◌, ◌-◌, ◌^◌, ◌<◌, lit≤}
use Rattle.std.specs.Prelude.{nat_lt, nat_eq}
use Rattle.std.proofs.lemmas.Bool.Decides.{nat_tests}
use Rattle.vb_tree.specs.declared.value.Value6.TheVariants as v
use Rattle.vb_tree.specs.declared.expression.UnOp.TheVariants as u
use Rattle.vb6_meaning.specs.Kinds.{checked_value}
use Rattle.vb6_meaning.specs.Numbers.{of_kind}
use Rattle.vb6_meaning.specs.NumberTexts.{text_of}
use Rattle.vb6_meaning.specs.Values.{fixed_text, complement, to_number, is_nonzero}
use Rattle.vb6_meaning.proofs.FixedTexts.{fixed_length}
use Rattle.net_meaning.specs.Operators.{complemented}
use Rattle.net_meaning.specs.Support as support
use Rattle.net_meaning.specs.WrittenRows as rows
use Rattle.net_meaning.specs.WrittenRows.{Row, Written, evaluate, operand_a, call, as_text, as_kind, kind_of, type_of_kind, write_conversion, write_unary, to_kind, to_fixed}
use Rattle.net_meaning.specs.SameValues.{Agrees, IsGiven, IsSameConversion, IsSameUnary, is_typed}
use Rattle.net_meaning.proofs.Powers.{power_positive}
use Rattle.meaning_laws.proofs.NetNumbers.{NetNumber, valued, agrees_then, number_matches}
use Rattle.meaning_laws.proofs.Operands.{Operand, false_operand, true_operand, byte_operand, integer_operand, long_operand, currency_operand, operand_to, operand_as, as_value, as_kind_value, currency_is_decimal}
use Rattle.meaning_laws.proofs.Arithmetic.{negative_same}
use Rattle.meaning_laws.proofs.BitRows.{not_at}
use Rattle.meaning_laws.proofs.Comparison.{IsText, str_text, no_text}
use Rattle.meaning_laws.proofs.TextRows.{textual}

-- to Boolean

above : (n : ℕ) → 0 < n → is_nonzero (pos n) ≡ true
above n h = grind (arith, nat_tests)

below : (n : ℕ) → 0 < n → is_nonzero (neg_ℤ (pos n)) ≡ true
below zero h = absurd (omega (arith, h))
below (suc n) h = refl

zero_scales : (m : ℤ) (k : ℕ) → 0 < k → is_nonzero m ≡ is_nonzero (m *ℤ pos k)
zero_scales (pos zero) k h = let e : zero ≡ zero * k = omega arith in ap (λ n. is_nonzero (pos n)) e
zero_scales (pos (suc a)) k h = above (suc a) (omega arith) ∙ sym (above (suc a * k) (omega (arith, h)))
zero_scales (negsuc a) k h = sym (below (suc a * k) (omega (arith, h)))

pub boolean_conversion : (are_same : ℕ → ℕ → Bool) → IsSameConversion are_same types.boolean
boolean_conversion are_same _ _ _ y hs (booleans b) = (n.Boolean b, refl, booleans b)
boolean_conversion are_same _ _ _ y hs (bytes l h) = (n.Boolean (is_nonzero (pos l)), refl, booleans (is_nonzero (pos l)))
boolean_conversion are_same _ _ _ y hs (integers w h) = (n.Boolean (is_nonzero w), refl, booleans (is_nonzero w))
boolean_conversion are_same _ _ _ y hs (longs w h) = (n.Boolean (is_nonzero w), refl, booleans (is_nonzero w))
boolean_conversion are_same _ _ _ y hs (currencies w m c h d) = (
  n.Boolean (is_nonzero w),
  ap (λ b. if b then gives (n.Boolean (is_nonzero m)) else outside) (currency_is_decimal w m c h d)
      ∙ ap (λ b. gives (n.Boolean b)) (zero_scales m (10 ^ (4 - c)) (power_positive (4 - c)) ∙ ap is_nonzero d.1),
  booleans (is_nonzero w),
)
boolean_conversion are_same _ _ _ y hs (texts units) = tt
boolean_conversion are_same _ _ _ y hs empty_text = tt
boolean_conversion are_same _ _ _ y hs (fixed_texts units) = tt
boolean_conversion are_same _ _ _ y hs no_object = tt
boolean_conversion are_same _ _ _ y hs (no_object_of k) = tt
boolean_conversion are_same _ _ _ y hs nothing = tt
boolean_conversion are_same _ _ _ y hs (objects d e h) = tt
boolean_conversion are_same _ _ _ y hs (objects_of k d e h) = tt
boolean_conversion are_same _ _ _ y hs in_variant_empty = cc
boolean_conversion are_same _ _ _ y hs (in_variant_boolean c) = cc
boolean_conversion are_same _ _ _ y hs (in_variant_byte l h) = cc
boolean_conversion are_same _ _ _ y hs (in_variant_integer w h) = cc
boolean_conversion are_same _ _ _ y hs (in_variant_long w h) = cc
boolean_conversion are_same _ _ _ y hs (in_variant_currency w m c h d) = cc
boolean_conversion are_same _ _ _ y hs (in_variant_text more) = cc

-- to a number

to_number_of : (are_same : ℕ → ℕ → Bool) (k : NumberKind) (s : Ty) (N : Number) (x y : ValueN) → Operand s N x → rows.is_boolean s ≡ false
    → Agrees (Matches are_same (type_of_kind k)) (checked_value k (amount_in k N)) (evaluate (as_kind k s operand_a) x y)
to_number_of are_same k s N x y o h =
    valued are_same k (amount_in k N) (evaluate (as_kind k s operand_a) x y)
    (subst (λ a. Agrees (NetNumber k) (limits.checked k (amount_in k N)) a) (sym (as_kind_value k s operand_a x y x refl))
    (operand_to k s N x o (λ b. h)))

from_boolean : (are_same : ℕ → ℕ → Bool) (k : NumberKind) (b : Bool) (y : ValueN)
    → Agrees (Matches are_same (type_of_kind k)) (to_number k (v.Boolean b)) (evaluate (as_kind k types.boolean operand_a) (n.Boolean b) y)
from_boolean are_same kinds.Byte true y = (n.Byte 255, refl, bytes 255 refl)
from_boolean are_same kinds.Byte false y = (n.Byte 0, refl, bytes 0 refl)
from_boolean are_same kinds.Integer true y = (n.Short (negsuc 0), refl, integers (negsuc 0) refl)
from_boolean are_same kinds.Integer false y = (n.Short (pos 0), refl, integers (pos 0) refl)
from_boolean are_same kinds.Long true y = (n.Integer (negsuc 0), refl, longs (negsuc 0) refl)
from_boolean are_same kinds.Long false y = (n.Integer (pos 0), refl, longs (pos 0) refl)
from_boolean are_same kinds.Currency true y = (n.Decimal (negsuc 0) 0, refl, currencies (negsuc 9999) (negsuc 0) 0 refl (lit≤ tt, refl))
from_boolean are_same kinds.Currency false y = (n.Decimal (pos 0) 0, refl, currencies (pos 0) (pos 0) 0 refl (lit≤ tt, refl))

number_conversion : (are_same : ℕ → ℕ → Bool) (k : NumberKind) (s : Ty) (a : Value6) (x y : ValueN) → is_typed s ≡ true → Matches are_same s a x
    → IsGiven are_same (type_of_kind k) (to_number k a) (to_kind k s (kind_of s)) x y
number_conversion are_same k _ _ _ y hs (booleans b) = from_boolean are_same k b y
number_conversion are_same k _ _ _ y hs (bytes l h) = to_number_of are_same k types.byte (of_kind kinds.Byte (pos l)) (n.Byte l) y (byte_operand l h) refl
number_conversion are_same k _ _ _ y hs (integers w h) = to_number_of are_same k types.integer (of_kind kinds.Integer w) (n.Short w) y (integer_operand w h) refl
number_conversion are_same k _ _ _ y hs (longs w h) = to_number_of are_same k types.long (of_kind kinds.Long w) (n.Integer w) y (long_operand w h) refl
number_conversion are_same k _ _ _ y hs (currencies w m c h d) = to_number_of are_same k types.currency (of_kind kinds.Currency w) (n.Decimal m c) y (currency_operand w m c h d) refl
number_conversion are_same k _ _ _ y hs (texts units) = tt
number_conversion are_same k _ _ _ y hs empty_text = tt
number_conversion are_same k _ _ _ y hs (fixed_texts units) = tt
number_conversion are_same k _ _ _ y hs no_object = tt
number_conversion are_same k _ _ _ y hs (no_object_of l) = tt
number_conversion are_same k _ _ _ y hs nothing = tt
number_conversion are_same k _ _ _ y hs (objects d e h) = tt
number_conversion are_same k _ _ _ y hs (objects_of l d e h) = tt
number_conversion are_same k _ _ _ y hs in_variant_empty = cc
number_conversion are_same k _ _ _ y hs (in_variant_boolean c) = cc
number_conversion are_same k _ _ _ y hs (in_variant_byte l h) = cc
number_conversion are_same k _ _ _ y hs (in_variant_integer w h) = cc
number_conversion are_same k _ _ _ y hs (in_variant_long w h) = cc
number_conversion are_same k _ _ _ y hs (in_variant_currency w m c h d) = cc
number_conversion are_same k _ _ _ y hs (in_variant_text more) = cc

pub byte_conversion : (are_same : ℕ → ℕ → Bool) → IsSameConversion are_same types.byte
byte_conversion are_same s a x y hs ma = number_conversion are_same kinds.Byte s a x y hs ma

pub integer_conversion : (are_same : ℕ → ℕ → Bool) → IsSameConversion are_same types.integer
integer_conversion are_same s a x y hs ma = number_conversion are_same kinds.Integer s a x y hs ma

pub long_conversion : (are_same : ℕ → ℕ → Bool) → IsSameConversion are_same types.long
long_conversion are_same s a x y hs ma = number_conversion are_same kinds.Long s a x y hs ma

pub currency_conversion : (are_same : ℕ → ℕ → Bool) → IsSameConversion are_same types.currency
currency_conversion are_same s a x y hs ma = number_conversion are_same kinds.Currency s a x y hs ma

-- to a text

text_matches : (are_same : ℕ → ℕ → Bool) (units : List ℕ) (x : ValueN) → IsText units x → Matches are_same types.str (v.Str units) x
text_matches are_same _ _ (str_text units) = texts units
text_matches are_same _ _ no_text = empty_text

by_text : (are_same : ℕ → ℕ → Bool) (A : Answer (List ℕ)) (i : Option Row) (units : List ℕ) (r : Row) (x y w : ValueN)
    → A ≡ gives units → i ≡ Some r → evaluate r x y ≡ gives w → IsText units w
    → IsGiven are_same types.str (then_answer A (λ units. gives (v.Str units))) i x y
by_text are_same A i units r x y w a b e is = simp (a, b) (w, e, text_matches are_same units w is)

given_outside : (are_same : ℕ → ℕ → Bool) (t : Ty) (i : Option Row) (x y : ValueN) → IsGiven are_same t outside i x y
given_outside are_same t None x y = tt
given_outside are_same t (Some r) x y = tt

no_text_given : (are_same : ℕ → ℕ → Bool) (t : Ty) (A : Answer (List ℕ)) (f : List ℕ → Answer Value6) (i : Option Row) (x y : ValueN) → A ≡ outside
    → IsGiven are_same t (then_answer A f) i x y
no_text_given are_same t A f i x y a = simp a (given_outside are_same t i x y)

pub str_conversion : (are_same : ℕ → ℕ → Bool) → IsSameConversion are_same types.str
str_conversion are_same s a x y hs ma = elim (textual are_same s a x hs ma operand_a x y refl) [
  | inl p ↦ by_text are_same (text_of a) (as_text s operand_a) p.units p.row x y p.result p.of_value p.written_as p.given p.is
  | inr e ↦ no_text_given are_same types.str (text_of a) (λ units. gives (v.Str units)) (as_text s operand_a) x y e
]

fixed_matches : (are_same : ℕ → ℕ → Bool) (k : ℕ) (units : List ℕ) → Matches are_same (types.fixed k) (v.Str (fixed_text k units)) (n.Str (fixed_text k units))
fixed_matches are_same k units =
    let P : ℕ → Type 0 = λ l. Matches are_same (types.fixed l) (v.Str (fixed_text k units)) (n.Str (fixed_text k units)) in
    subst P (fixed_length k units) (fixed_texts (fixed_text k units))

fixed_value : (k : ℕ) (units : List ℕ) (w : ValueN) → IsText units w → support.fix w k ≡ gives (n.Str (fixed_text k units))
fixed_value k _ _ (str_text units) = refl
fixed_value k _ _ no_text = refl

fixed_given : (are_same : ℕ → ℕ → Bool) (k : ℕ) (units : List ℕ) (b : Bool) (q : Answer ValueN) → q ≡ gives (n.Str (fixed_text k units))
    → Agrees (Matches are_same (types.fixed k)) (cond b (gives (v.Str (fixed_text k units))) outside) q
fixed_given are_same k units true q e = (n.Str (fixed_text k units), e, fixed_matches are_same k units)
fixed_given are_same k units false q e = tt

by_fixed : (are_same : ℕ → ℕ → Bool) (k : ℕ) (A : Answer (List ℕ)) (i : Option Row) (units : List ℕ) (r : Row) (x y w : ValueN)
    → A ≡ gives units → i ≡ Some r → evaluate r x y ≡ gives w → IsText units w
    → IsGiven are_same (types.fixed k) (then_answer A (λ units. six.text (fixed_text k units))) (to_fixed k i) x y
by_fixed are_same k A i units r x y w a b e is =
    simp (a, b) (fixed_given are_same k units (nat_lt (length (fixed_text k units)) (2 ^ 31)) (evaluate (call (rows.fix k) r) x y)
    (ap (λ q. then_answer q (λ v. support.fix v k)) e ∙ fixed_value k units w is))

pub fixed_conversion : (are_same : ℕ → ℕ → Bool) (k : ℕ) → IsSameConversion are_same (types.fixed k)
fixed_conversion are_same k s a x y hs ma = elim (textual are_same s a x hs ma operand_a x y refl) [
  | inl p ↦ by_fixed are_same k (text_of a) (as_text s operand_a) p.units p.row x y p.result p.of_value p.written_as p.given p.is
  | inr e ↦ no_text_given are_same (types.fixed k) (text_of a) (λ units. six.text (fixed_text k units)) (to_fixed k (as_text s operand_a)) x y e
]

-- to an object and to a Variant

pub object_conversion : (are_same : ℕ → ℕ → Bool) → IsSameConversion are_same types.object
object_conversion are_same _ _ _ y hs (booleans b) = tt
object_conversion are_same _ _ _ y hs (bytes l h) = tt
object_conversion are_same _ _ _ y hs (integers w h) = tt
object_conversion are_same _ _ _ y hs (longs w h) = tt
object_conversion are_same _ _ _ y hs (currencies w m c h d) = tt
object_conversion are_same _ _ _ y hs (texts units) = tt
object_conversion are_same _ _ _ y hs empty_text = tt
object_conversion are_same _ _ _ y hs (fixed_texts units) = tt
object_conversion are_same _ _ _ y hs no_object = (n.Nothing, refl, no_object)
object_conversion are_same _ _ _ y hs (no_object_of k) = (n.Nothing, refl, no_object)
object_conversion are_same _ _ _ y hs nothing = (n.Nothing, refl, no_object)
object_conversion are_same _ _ _ y hs (objects d e h) = (n.Object e, refl, objects d e h)
object_conversion are_same _ _ _ y hs (objects_of k d e h) = (n.Object e, refl, objects d e h)
object_conversion are_same _ _ _ y hs in_variant_empty = cc
object_conversion are_same _ _ _ y hs (in_variant_boolean c) = cc
object_conversion are_same _ _ _ y hs (in_variant_byte l h) = cc
object_conversion are_same _ _ _ y hs (in_variant_integer w h) = cc
object_conversion are_same _ _ _ y hs (in_variant_long w h) = cc
object_conversion are_same _ _ _ y hs (in_variant_currency w m c h d) = cc
object_conversion are_same _ _ _ y hs (in_variant_text more) = cc

class_given : (are_same : ℕ → ℕ → Bool) (k : ℕ) (b : Bool) (a : Value6) (x y : ValueN) → Matches are_same (types.class k) a x
    → IsGiven are_same (types.class k) (gives a) (if b then Some operand_a else None) x y
class_given are_same k true a x y h = (x, refl, h)
class_given are_same k false a x y h = tt

pub class_conversion : (are_same : ℕ → ℕ → Bool) (k : ℕ) → IsSameConversion are_same (types.class k)
class_conversion are_same k _ _ _ y hs (booleans b) = tt
class_conversion are_same k _ _ _ y hs (bytes l h) = tt
class_conversion are_same k _ _ _ y hs (integers w h) = tt
class_conversion are_same k _ _ _ y hs (longs w h) = tt
class_conversion are_same k _ _ _ y hs (currencies w m c h d) = tt
class_conversion are_same k _ _ _ y hs (texts units) = tt
class_conversion are_same k _ _ _ y hs empty_text = tt
class_conversion are_same k _ _ _ y hs (fixed_texts units) = tt
class_conversion are_same k _ _ _ y hs no_object = tt
class_conversion are_same k _ _ _ y hs (no_object_of l) = class_given are_same k (nat_eq k l) v.Nothing n.Nothing y (no_object_of k)
class_conversion are_same k _ _ _ y hs nothing = (n.Nothing, refl, no_object_of k)
class_conversion are_same k _ _ _ y hs (objects d e h) = tt
class_conversion are_same k _ _ _ y hs (objects_of l d e h) = class_given are_same k (nat_eq k l) (v.Object d) (n.Object e) y (objects_of k d e h)
class_conversion are_same k _ _ _ y hs in_variant_empty = cc
class_conversion are_same k _ _ _ y hs (in_variant_boolean c) = cc
class_conversion are_same k _ _ _ y hs (in_variant_byte l h) = cc
class_conversion are_same k _ _ _ y hs (in_variant_integer w h) = cc
class_conversion are_same k _ _ _ y hs (in_variant_long w h) = cc
class_conversion are_same k _ _ _ y hs (in_variant_currency w m c h d) = cc
class_conversion are_same k _ _ _ y hs (in_variant_text more) = cc

pub variant_conversion : (are_same : ℕ → ℕ → Bool) → IsSameConversion are_same types.variant
variant_conversion are_same _ _ _ y hs (booleans b) = (n.Boolean b, refl, in_variant_boolean b)
variant_conversion are_same _ _ _ y hs (bytes l h) = (n.Byte l, refl, in_variant_byte l h)
variant_conversion are_same _ _ _ y hs (integers w h) = (n.Short w, refl, in_variant_integer w h)
variant_conversion are_same _ _ _ y hs (longs w h) = (n.Integer w, refl, in_variant_long w h)
variant_conversion are_same _ _ _ y hs (currencies w m c h d) = (n.Decimal m c, refl, in_variant_currency w m c h d)
variant_conversion are_same _ _ _ y hs (texts units) = (n.Str units, refl, in_variant_text units)
variant_conversion are_same _ _ _ y hs empty_text = (n.Str [], refl, in_variant_text [])
variant_conversion are_same _ _ _ y hs (fixed_texts units) = (n.Str units, refl, in_variant_text units)
variant_conversion are_same _ _ _ y hs no_object = tt
variant_conversion are_same _ _ _ y hs (no_object_of k) = tt
variant_conversion are_same _ _ _ y hs nothing = tt
variant_conversion are_same _ _ _ y hs (objects d e h) = tt
variant_conversion are_same _ _ _ y hs (objects_of k d e h) = tt
variant_conversion are_same _ _ _ y hs in_variant_empty = cc
variant_conversion are_same _ _ _ y hs (in_variant_boolean c) = cc
variant_conversion are_same _ _ _ y hs (in_variant_byte l h) = cc
variant_conversion are_same _ _ _ y hs (in_variant_integer w h) = cc
variant_conversion are_same _ _ _ y hs (in_variant_long w h) = cc
variant_conversion are_same _ _ _ y hs (in_variant_currency w m c h d) = cc
variant_conversion are_same _ _ _ y hs (in_variant_text more) = cc

pub nothing_conversion : (are_same : ℕ → ℕ → Bool) → IsSameConversion are_same types.nothing
nothing_conversion are_same _ _ _ y hs (booleans b) = tt
nothing_conversion are_same _ _ _ y hs (bytes l h) = tt
nothing_conversion are_same _ _ _ y hs (integers w h) = tt
nothing_conversion are_same _ _ _ y hs (longs w h) = tt
nothing_conversion are_same _ _ _ y hs (currencies w m c h d) = tt
nothing_conversion are_same _ _ _ y hs (texts units) = tt
nothing_conversion are_same _ _ _ y hs empty_text = tt
nothing_conversion are_same _ _ _ y hs (fixed_texts units) = tt
nothing_conversion are_same _ _ _ y hs no_object = tt
nothing_conversion are_same _ _ _ y hs (no_object_of k) = tt
nothing_conversion are_same _ _ _ y hs (objects d e h) = tt
nothing_conversion are_same _ _ _ y hs (objects_of k d e h) = tt
nothing_conversion are_same _ _ _ y hs nothing = (n.Nothing, refl, nothing)
nothing_conversion are_same _ _ _ y hs in_variant_empty = cc
nothing_conversion are_same _ _ _ y hs (in_variant_boolean c) = cc
nothing_conversion are_same _ _ _ y hs (in_variant_byte l h) = cc
nothing_conversion are_same _ _ _ y hs (in_variant_integer w h) = cc
nothing_conversion are_same _ _ _ y hs (in_variant_long w h) = cc
nothing_conversion are_same _ _ _ y hs (in_variant_currency w m c h d) = cc
nothing_conversion are_same _ _ _ y hs (in_variant_text more) = cc

-- all types

pub conversion : (are_same : ℕ → ℕ → Bool) (t : Ty) → IsSameConversion are_same t
conversion are_same types.boolean = boolean_conversion are_same
conversion are_same types.byte = byte_conversion are_same
conversion are_same types.integer = integer_conversion are_same
conversion are_same types.long = long_conversion are_same
conversion are_same types.currency = currency_conversion are_same
conversion are_same types.str = str_conversion are_same
conversion are_same (types.fixed k) = fixed_conversion are_same k
conversion are_same (types.user k) = λ s a x y hs ma. tt
conversion are_same (types.class k) = class_conversion are_same k
conversion are_same types.object = object_conversion are_same
conversion are_same types.variant = variant_conversion are_same
conversion are_same (types.array element dimensions) = λ s a x y hs ma. tt
conversion are_same types.nothing = nothing_conversion are_same
conversion are_same types.unknown = λ s a x y hs ma. tt

-- minus and Not

pub minus : (are_same : ℕ → ℕ → Bool) → IsSameUnary are_same u.Neg
minus are_same _ _ b _ y hs (booleans true) = negative_same are_same _ _ y _ true_operand
minus are_same _ _ b _ y hs (booleans false) = negative_same are_same _ _ y _ false_operand
minus are_same _ _ b _ y hs (bytes l h) = negative_same are_same _ _ y _ (byte_operand l h)
minus are_same _ _ b _ y hs (integers w h) = negative_same are_same _ _ y _ (integer_operand w h)
minus are_same _ _ b _ y hs (longs w h) = negative_same are_same _ _ y _ (long_operand w h)
minus are_same _ _ b _ y hs (currencies w m c h d) = negative_same are_same _ _ y _ (currency_operand w m c h d)
minus are_same _ _ b _ y hs (texts units) = refl
minus are_same _ _ b _ y hs empty_text = refl
minus are_same _ _ b _ y hs (fixed_texts units) = refl
minus are_same _ _ b _ y hs no_object = refl
minus are_same _ _ b _ y hs (no_object_of k) = refl
minus are_same _ _ b _ y hs nothing = refl
minus are_same _ _ b _ y hs (objects d e h) = refl
minus are_same _ _ b _ y hs (objects_of k d e h) = refl
minus are_same _ _ b _ y hs in_variant_empty = cc
minus are_same _ _ b _ y hs (in_variant_boolean c) = cc
minus are_same _ _ b _ y hs (in_variant_byte l h) = cc
minus are_same _ _ b _ y hs (in_variant_integer w h) = cc
minus are_same _ _ b _ y hs (in_variant_long w h) = cc
minus are_same _ _ b _ y hs (in_variant_currency w m c h d) = cc
minus are_same _ _ b _ y hs (in_variant_text more) = cc

turned : (are_same : ℕ → ℕ → Bool) (k : NumberKind) → whole k ≡ k → is_byte k ≡ false → (s : Ty) (N : Number) (x : ValueN) → Operand s N x
    → Agrees (Matches are_same (type_of_kind k)) (then_answer (limits.checked k (amount_in k N)) (λ p. gives (value k (complement p)))) (then_answer (as_value k s x) complemented)
turned are_same k c b s N x o =
    agrees_then (NetNumber k) (Matches are_same (type_of_kind k)) (limits.checked k (amount_in k N)) (as_value k s x)
    (λ p. gives (value k (complement p))) complemented (operand_as k s N x o (λ e. absurd (let f : true ≡ false = sym e ∙ b in cc)))
    (λ p w pw. let t = not_at k c b p w pw in (t.0, t.1, number_matches are_same k (complement p) t.0 t.2))

pub turn : (are_same : ℕ → ℕ → Bool) → IsSameUnary are_same u.Not
turn are_same _ _ b _ y hs (booleans p) = (n.Boolean (not p), refl, booleans (not p))
turn are_same _ _ b _ y hs (bytes l h) = refl
turn are_same _ _ b _ y hs (integers w h) = turned are_same kinds.Integer refl refl types.integer (of_kind kinds.Integer w) (n.Short w) (integer_operand w h)
turn are_same _ _ b _ y hs (longs w h) = turned are_same kinds.Long refl refl types.long (of_kind kinds.Long w) (n.Integer w) (long_operand w h)
turn are_same _ _ b _ y hs (currencies w m c h d) = turned are_same kinds.Long refl refl types.currency (of_kind kinds.Currency w) (n.Decimal m c) (currency_operand w m c h d)
turn are_same _ _ b _ y hs (texts units) = refl
turn are_same _ _ b _ y hs empty_text = refl
turn are_same _ _ b _ y hs (fixed_texts units) = refl
turn are_same _ _ b _ y hs no_object = refl
turn are_same _ _ b _ y hs (no_object_of k) = refl
turn are_same _ _ b _ y hs nothing = refl
turn are_same _ _ b _ y hs (objects d e h) = refl
turn are_same _ _ b _ y hs (objects_of k d e h) = refl
turn are_same _ _ b _ y hs in_variant_empty = cc
turn are_same _ _ b _ y hs (in_variant_boolean c) = cc
turn are_same _ _ b _ y hs (in_variant_byte l h) = cc
turn are_same _ _ b _ y hs (in_variant_integer w h) = cc
turn are_same _ _ b _ y hs (in_variant_long w h) = cc
turn are_same _ _ b _ y hs (in_variant_currency w m c h d) = cc
turn are_same _ _ b _ y hs (in_variant_text more) = cc
