-- The rules that conversions and operators break are rules, and an operator is over an unknown part only where an operand has no type.
use Rattle.std.proofs.Common.{◌≡◌, ℕ, Bool, true, false, cond, Option, Some, None, refl, nat_eq}
use Rattle.std.specs.Prelude.{◌&&◌, ◌||◌}
use Rattle.vb_tree.specs.BoundTree.{Ty, boolean, byte, integer, long, currency, str, fixed, user, class, object, variant, array, nothing, unknown}
use Rattle.vb_tree.specs.declared.bound.LibCall.{LibCall}
use Rattle.vb_tree.specs.declared.expression.BinOp.{BinOp}
use Rattle.vb_tree.specs.declared.expression.BinOp.TheVariants as b
use Rattle.vb_tree.specs.declared.expression.UnOp.{UnOp}
use Rattle.vb_tree.specs.declared.expression.UnOp.TheVariants as u
use Rattle.vb6_meaning.specs.declared.number.NumberKind.{NumberKind}
use Rattle.vb6_meaning.specs.declared.number.NumberKind.TheVariants as kinds
use Rattle.vb6_meaning.specs.Kinds.{wider, whole, is_byte}
use Rattle.vb6_meaning.specs.Values.{are_currencies}
use Rattle.typing_rows.specs.declared.conversions.Conversion.{Conversion}
use Rattle.typing_rows.specs.declared.conversions.Conversion.TheVariants.{Stands, To, ByDefault, Breaks}
use Rattle.typing_rows.specs.declared.library.Wanted.{Wanted}
use Rattle.typing_rows.specs.declared.library.Wanted.TheVariants as wants
use Rattle.typing_rows.specs.declared.operands.Operand.{Operand}
use Rattle.typing_rows.specs.declared.operands.Operand.TheVariants as operand
use Rattle.typing_rows.specs.declared.operators.Row.{Row}
use Rattle.typing_rows.specs.declared.operators.Row.TheVariants.{Both, Own, OverUnknown, NoForm, Untranslated}
use Rattle.typing_rows.specs.declared.operators.Row.TheVariants as rows
use Rattle.typing_rows.specs.declared.simple_types.SimpleType.{SimpleType}
use Rattle.typing_rows.specs.declared.simple_types.SimpleType.TheVariants as simple
use Rattle.typing_rows.specs.Conversions.{counted, valued, to_number, to_value, is_array, to_object, to_class, to_user, to_array, to_nothing, is_same_type, converts}
use Rattle.typing_rows.specs.Library.{argument, argument_wanted, given, kept, text_alone, number_alone, only_number, only_variant, only_array, dimension}
use Rattle.typing_rows.specs.Types.{is_type, ty_of, operand_of, kind_of, is_boolean, is_text, is_variant, is_object, is_unknown, is_value, is_reference}
use Rattle.typing_rows.specs.Typing.{on_kinds, on_numbers, alike, sum, quotient, signed, factors, product, order, added, compared, logical, or_variant, joined, over, operand_row, binary_row, minus, complement, unary_row}
use Rattle.binding_laws.specs.Causes.{is_known_type, is_rule}

-- ---- conversions

abbrev pub IsNamed : Conversion → Type 0
IsNamed Stands = Unit {0}
IsNamed (To t) = Unit {0}
IsNamed ByDefault = Unit {0}
IsNamed (Breaks rule) = is_rule rule ≡ true

either_named : (test : Bool) (c d : Conversion) → IsNamed c → IsNamed d → IsNamed (cond test c d)
either_named true c d h k = h
either_named false c d h k = k

counted_named : (t : SimpleType) (x : Operand) → IsNamed (counted t x)
counted_named t operand.Text = refl
counted_named t operand.Nothing = refl
counted_named t operand.Other = refl
counted_named t _ = tt

valued_named : (t : SimpleType) (x : Operand) → IsNamed (valued t x)
valued_named t operand.Nothing = refl
valued_named t operand.Other = refl
valued_named t _ = tt

number_named : (t : SimpleType) (s : Ty) → IsNamed (to_number t s)
number_named t s = either_named (is_type t s) Stands (counted t (operand_of s)) tt (counted_named t (operand_of s))

value_named : (t : SimpleType) (s : Ty) → IsNamed (to_value t s)
value_named t s = either_named (is_type t s) Stands (valued t (operand_of s)) tt (valued_named t (operand_of s))

object_named : (s : Ty) → IsNamed (to_object s)
object_named object = tt
object_named (class k) = tt
object_named nothing = tt
object_named unknown = tt
object_named _ = refl

class_named : (k : ℕ) (s : Ty) → IsNamed (to_class k s)
class_named k (class l) = either_named (nat_eq k l) Stands (Breaks 21) tt refl
class_named k nothing = tt
class_named k unknown = tt
class_named k _ = refl

user_named : (k : ℕ) (s : Ty) → IsNamed (to_user k s)
user_named k (user l) = either_named (nat_eq k l) Stands (Breaks 21) tt refl
user_named k (class l) = tt
user_named k object = tt
user_named k unknown = tt
user_named k _ = refl

array_named : (e s : Ty) → IsNamed (to_array e s)
array_named e (array f rank) = either_named (is_same_type e f) Stands (Breaks 21) tt refl
array_named e unknown = tt
array_named e _ = refl

nothing_named : (s : Ty) → IsNamed (to_nothing s)
nothing_named nothing = tt
nothing_named unknown = tt
nothing_named _ = refl

pub converts_named : (s t : Ty) → IsNamed (converts s t)
converts_named s boolean = number_named simple.Boolean s
converts_named s byte = number_named simple.Byte s
converts_named s integer = number_named simple.Integer s
converts_named s long = number_named simple.Long s
converts_named s currency = number_named simple.Currency s
converts_named s str = value_named simple.Str s
converts_named s (fixed units) = value_named (simple.Fixed units) s
converts_named s (user k) = user_named k s
converts_named s (class k) = class_named k s
converts_named s object = object_named s
converts_named s variant = either_named (is_array s) (Breaks 5) (to_value simple.Variant s) refl (value_named simple.Variant s)
converts_named s (array e rank) = array_named e s
converts_named s nothing = nothing_named s
converts_named s unknown = tt

-- ---- arguments of the library

text_named : (x : Operand) → IsNamed (text_alone x)
text_named operand.Text = tt
text_named operand.Object = tt
text_named operand.Unknown = tt
text_named _ = refl

kind_named : (k : NumberKind) → IsNamed (number_alone k)
kind_named kinds.Byte = tt
kind_named kinds.Integer = tt
kind_named kinds.Long = tt
kind_named kinds.Currency = tt

only_number_named : (x : Operand) → IsNamed (only_number x)
only_number_named operand.Boolean = tt
only_number_named (operand.Number k) = kind_named k
only_number_named operand.Object = tt
only_number_named operand.Unknown = tt
only_number_named _ = refl

only_variant_named : (x : Operand) → IsNamed (only_variant x)
only_variant_named operand.Variant = tt
only_variant_named operand.Object = tt
only_variant_named operand.Unknown = tt
only_variant_named _ = refl

only_array_named : (s : Ty) → IsNamed (only_array s)
only_array_named (array e rank) = tt
only_array_named unknown = tt
only_array_named _ = refl

dimension_named : (x : Operand) → IsNamed (dimension x)
dimension_named (operand.Number k) = tt
dimension_named operand.Variant = tt
dimension_named operand.Unknown = tt
dimension_named _ = refl

kept_named : (c : Conversion) → IsNamed c → IsNamed (kept c)
kept_named Stands h = tt
kept_named (To t) h = tt
kept_named ByDefault h = tt
kept_named (Breaks rule) h = h

given_named : (w : Wanted) (s : Ty) → IsNamed (given w s)
given_named wants.Text s = converts_named s str
given_named wants.Count s = converts_named s long
given_named wants.OnlyText s = either_named (is_type simple.Str s) Stands (text_alone (operand_of s)) tt (text_named (operand_of s))
given_named wants.Number s = only_number_named (operand_of s)
given_named wants.Variant s = only_variant_named (operand_of s)
given_named wants.Array s = only_array_named s
given_named wants.Dimension s = dimension_named (operand_of s)
given_named (wants.Converted t) s = kept_named (converts s (ty_of t)) (converts_named s (ty_of t))

pub argument_named : (f : LibCall) (i : ℕ) (s : Ty) → IsNamed (argument f i s)
argument_named f i s = given_named (argument_wanted f i) s

-- ---- operators

abbrev pub IsTold : Row → Type 0
IsTold OverUnknown = ⊥
IsTold _ = Unit {0}

either_told : (test : Bool) (r s : Row) → IsTold r → IsTold s → IsTold (cond test r s)
either_told true r s h k = h
either_told false r s h k = k

kinds_told : (f : NumberKind → NumberKind → Row) → ((k l : NumberKind) → IsTold (f k l)) → (x y : Option NumberKind) → IsTold (on_kinds f x y)
kinds_told f h None y = tt
kinds_told f h (Some k) None = tt
kinds_told f h (Some k) (Some l) = h k l

numbers_told : (f : NumberKind → NumberKind → Row) → ((k l : NumberKind) → IsTold (f k l)) → (x y : Operand) → IsTold (on_numbers f x y)
numbers_told f h x y = kinds_told f h (kind_of x) (kind_of y)

factors_told : (k : NumberKind) → IsTold (factors k)
factors_told kinds.Byte = tt
factors_told kinds.Integer = tt
factors_told kinds.Long = tt
factors_told kinds.Currency = tt

product_told : (k l : NumberKind) → IsTold (product k l)
product_told k l = either_told (are_currencies k l) NoForm (factors (wider k l)) tt (factors_told (wider k l))

signed_told : (k l : NumberKind) → IsTold (signed k l)
signed_told k l = either_told (is_byte (whole (wider k l))) NoForm (quotient k l) tt tt

quotient_told : (k l : NumberKind) → IsTold (quotient k l)
quotient_told k l = tt

sum_told : (k l : NumberKind) → IsTold (sum k l)
sum_told k l = tt

order_told : (k l : NumberKind) → IsTold (order k l)
order_told k l = tt

variant_told : (gives : SimpleType) (r : Row) (x y : Operand) → IsTold r → IsTold (or_variant gives r x y)
variant_told gives r x y h =
    either_told (is_variant x || is_variant y) (cond (is_value x && is_value y) (Both simple.Variant gives) NoForm) r
    (either_told (is_value x && is_value y) (Both simple.Variant gives) NoForm tt tt) h

over_told : (r : Row) (x y : Operand) → is_unknown x ≡ false → is_unknown y ≡ false → IsTold r → IsTold (over r x y)
over_told r x y h k told = by (is_unknown x) (is_unknown y) h k
  where
    by : (p q : Bool) → p ≡ false → q ≡ false → IsTold (cond (p || q) OverUnknown (cond (is_object x || is_object y) rows.ByDefault r))
    by true q h k = absurd (cc h)
    by false true h k = absurd (cc k)
    by false false h k = either_told (is_object x || is_object y) rows.ByDefault r tt told

added_told : (x y : Operand) → IsTold (added x y)
added_told x y = either_told (is_text x && is_text y) (Both simple.Str simple.Str) (on_numbers sum x y) tt (numbers_told sum sum_told x y)

compared_told : (x y : Operand) → IsTold (compared x y)
compared_told x y =
    either_told (is_text x && is_text y) (Both simple.Str simple.Boolean) (cond (is_boolean x && is_boolean y) (Both simple.Boolean simple.Boolean) (on_numbers order x y)) tt
    (either_told (is_boolean x && is_boolean y) (Both simple.Boolean simple.Boolean) (on_numbers order x y) tt (numbers_told order order_told x y))

logical_told : (f : NumberKind → NumberKind → Row) → ((k l : NumberKind) → IsTold (f k l)) → (x y : Operand) → IsTold (logical f x y)
logical_told f h x y = either_told (is_boolean x && is_boolean y) (Both simple.Boolean simple.Boolean) (on_numbers f x y) tt (numbers_told f h x y)

same_told : (x y : Operand) → is_unknown x ≡ false → is_unknown y ≡ false → IsTold (operand_row b.Is x y)
same_told x y h k = by (is_unknown x) (is_unknown y) h k
  where
    by : (p q : Bool) → p ≡ false → q ≡ false → IsTold (cond (p || q) OverUnknown (cond (is_reference x && is_reference y) (Own simple.Boolean) NoForm))
    by true q h k = absurd (cc h)
    by false true h k = absurd (cc k)
    by false false h k = either_told (is_reference x && is_reference y) (Own simple.Boolean) NoForm tt tt

operand_told : (op : BinOp) (x y : Operand) → is_unknown x ≡ false → is_unknown y ≡ false → IsTold (operand_row op x y)
operand_told b.Pow x y h k = tt
operand_told b.Mul x y h k = over_told _ x y h k (variant_told simple.Variant (on_numbers product x y) x y (numbers_told product product_told x y))
operand_told b.Div x y h k = tt
operand_told b.IntDiv x y h k = over_told _ x y h k (variant_told simple.Variant (on_numbers quotient x y) x y (numbers_told quotient quotient_told x y))
operand_told b.Mod x y h k = over_told _ x y h k (variant_told simple.Variant (on_numbers quotient x y) x y (numbers_told quotient quotient_told x y))
operand_told b.Add x y h k = over_told _ x y h k (variant_told simple.Variant (added x y) x y (added_told x y))
operand_told b.Sub x y h k = over_told _ x y h k (variant_told simple.Variant (on_numbers sum x y) x y (numbers_told sum sum_told x y))
operand_told b.Concat x y h k = over_told (joined x y) x y h k (either_told (is_value x && is_value y) (Both simple.Str simple.Str) NoForm tt tt)
operand_told b.Equal x y h k = over_told _ x y h k (variant_told simple.Boolean (compared x y) x y (compared_told x y))
operand_told b.NotEqual x y h k = over_told _ x y h k (variant_told simple.Boolean (compared x y) x y (compared_told x y))
operand_told b.Less x y h k = over_told _ x y h k (variant_told simple.Boolean (compared x y) x y (compared_told x y))
operand_told b.Greater x y h k = over_told _ x y h k (variant_told simple.Boolean (compared x y) x y (compared_told x y))
operand_told b.LessEqual x y h k = over_told _ x y h k (variant_told simple.Boolean (compared x y) x y (compared_told x y))
operand_told b.GreaterEqual x y h k = over_told _ x y h k (variant_told simple.Boolean (compared x y) x y (compared_told x y))
operand_told b.Is x y h k = same_told x y h k
operand_told b.Like x y h k = tt
operand_told b.And x y h k = over_told _ x y h k (variant_told simple.Variant (logical quotient x y) x y (logical_told quotient quotient_told x y))
operand_told b.Or x y h k = over_told _ x y h k (variant_told simple.Variant (logical quotient x y) x y (logical_told quotient quotient_told x y))
operand_told b.Xor x y h k = over_told _ x y h k (variant_told simple.Variant (logical quotient x y) x y (logical_told quotient quotient_told x y))
operand_told b.Eqv x y h k = over_told _ x y h k (variant_told simple.Variant (logical signed x y) x y (logical_told signed signed_told x y))
operand_told b.Imp x y h k = over_told _ x y h k (variant_told simple.Variant (logical signed x y) x y (logical_told signed signed_told x y))

operand_known : (s : Ty) → is_known_type s ≡ true → is_unknown (operand_of s) ≡ false
operand_known unknown h = absurd (cc h)
operand_known _ h = refl

pub binary_told : (op : BinOp) (s t : Ty) → is_known_type s ≡ true → is_known_type t ≡ true → IsTold (binary_row op s t)
binary_told op s t h k = operand_told op (operand_of s) (operand_of t) (operand_known s h) (operand_known t k)

minus_told : (x : Operand) → is_unknown x ≡ false → IsTold (minus x)
minus_told (operand.Number k) h = either_told (is_byte k) NoForm (alike k) tt tt
minus_told operand.Unknown h = absurd (cc h)
minus_told _ h = tt

complement_told : (x : Operand) → is_unknown x ≡ false → IsTold (complement x)
complement_told (operand.Number k) h = either_told (is_byte k) NoForm (alike (whole k)) tt tt
complement_told operand.Unknown h = absurd (cc h)
complement_told _ h = tt

pub unary_told : (op : UnOp) (s : Ty) → is_known_type s ≡ true → IsTold (unary_row op s)
unary_told u.Neg s h = minus_told (operand_of s) (operand_known s h)
unary_told u.Not s h = complement_told (operand_of s) (operand_known s h)

pub simple_known : (t : SimpleType) → is_known_type (ty_of t) ≡ true
simple_known simple.Boolean = refl
simple_known _ = refl
