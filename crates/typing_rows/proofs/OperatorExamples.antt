-- Rows of operators, computed. Their types were worked out by hand.
use Rattle.std.proofs.Common.{◌≡◌, refl, Some, None}
use Rattle.vb_tree.specs.BoundTree.{boolean, byte, integer, long, currency, str, fixed, user, class, object, variant, array, nothing, unknown}
use Rattle.vb_tree.specs.declared.expression.BinOp.TheVariants as b
use Rattle.vb_tree.specs.declared.expression.UnOp.TheVariants as u
use Rattle.typing_rows.specs.declared.operators.Row.TheVariants.{Both, Own, ByDefault, OverUnknown, NoForm, Untranslated}
use Rattle.typing_rows.specs.declared.simple_types.SimpleType.TheVariants as simple
use Rattle.typing_rows.specs.Typing.{binary_row, unary_row, rule_of_row}

-- ---- sums and differences: the wider number, and a Boolean is an Integer

bytes : binary_row b.Add byte byte ≡ Both simple.Byte simple.Byte
bytes = refl

byte_and_integer : binary_row b.Add byte integer ≡ Both simple.Integer simple.Integer
byte_and_integer = refl

byte_and_long : binary_row b.Sub byte long ≡ Both simple.Long simple.Long
byte_and_long = refl

integer_and_long : binary_row b.Add integer long ≡ Both simple.Long simple.Long
integer_and_long = refl

long_and_integer : binary_row b.Sub long integer ≡ Both simple.Long simple.Long
long_and_integer = refl

long_and_currency : binary_row b.Add long currency ≡ Both simple.Currency simple.Currency
long_and_currency = refl

two_currencies : binary_row b.Sub currency currency ≡ Both simple.Currency simple.Currency
two_currencies = refl

two_booleans : binary_row b.Add boolean boolean ≡ Both simple.Integer simple.Integer
two_booleans = refl

boolean_and_byte : binary_row b.Sub boolean byte ≡ Both simple.Integer simple.Integer
boolean_and_byte = refl

boolean_and_long : binary_row b.Add boolean long ≡ Both simple.Long simple.Long
boolean_and_long = refl

text_less_number : binary_row b.Sub str integer ≡ NoForm
text_less_number = refl

sum_of_user_type : binary_row b.Add (user 0) integer ≡ NoForm
sum_of_user_type = refl

sum_of_array : binary_row b.Add long (array long 1) ≡ NoForm
sum_of_array = refl

sum_of_nothing : binary_row b.Add nothing long ≡ NoForm
sum_of_nothing = refl

sum_over_unknown : binary_row b.Add unknown long ≡ OverUnknown
sum_over_unknown = refl

unknown_beside_an_object : binary_row b.Sub object unknown ≡ OverUnknown
unknown_beside_an_object = refl

sum_of_object : binary_row b.Add (class 2) long ≡ ByDefault
sum_of_object = refl

object_beside_a_user_type : binary_row b.Sub (user 1) object ≡ ByDefault
object_beside_a_user_type = refl

-- ---- `+` on texts

two_texts : binary_row b.Add str str ≡ Both simple.Str simple.Str
two_texts = refl

fixed_text : binary_row b.Add (fixed 3) str ≡ Both simple.Str simple.Str
fixed_text = refl

text_and_number : binary_row b.Add str long ≡ NoForm
text_and_number = refl

text_and_unknown : binary_row b.Add str unknown ≡ OverUnknown
text_and_unknown = refl

-- ---- products

product_of_integers : binary_row b.Mul integer integer ≡ Both simple.Integer simple.Integer
product_of_integers = refl

product_of_boolean : binary_row b.Mul boolean long ≡ Both simple.Long simple.Long
product_of_boolean = refl

currency_times_integer : binary_row b.Mul currency integer ≡ Own simple.Currency
currency_times_integer = refl

byte_times_currency : binary_row b.Mul byte currency ≡ Own simple.Currency
byte_times_currency = refl

currency_times_boolean : binary_row b.Mul currency boolean ≡ Own simple.Currency
currency_times_boolean = refl

currency_times_currency : binary_row b.Mul currency currency ≡ NoForm
currency_times_currency = refl

product_of_texts : binary_row b.Mul str str ≡ NoForm
product_of_texts = refl

product_over_unknown : binary_row b.Mul currency unknown ≡ OverUnknown
product_over_unknown = refl

-- ---- `\` and Mod

quotient_of_bytes : binary_row b.IntDiv byte byte ≡ Both simple.Byte simple.Byte
quotient_of_bytes = refl

quotient_of_currencies : binary_row b.IntDiv currency currency ≡ Both simple.Long simple.Long
quotient_of_currencies = refl

remainder_of_currency : binary_row b.Mod currency integer ≡ Both simple.Long simple.Long
remainder_of_currency = refl

remainder_of_booleans : binary_row b.Mod boolean boolean ≡ Both simple.Integer simple.Integer
remainder_of_booleans = refl

quotient_of_text : binary_row b.IntDiv str long ≡ NoForm
quotient_of_text = refl

remainder_over_unknown : binary_row b.Mod unknown unknown ≡ OverUnknown
remainder_over_unknown = refl

-- ---- `&`

joined_numbers : binary_row b.Concat integer currency ≡ Both simple.Str simple.Str
joined_numbers = refl

joined_boolean : binary_row b.Concat boolean (fixed 4) ≡ Both simple.Str simple.Str
joined_boolean = refl

joined_variants : binary_row b.Concat variant variant ≡ Both simple.Str simple.Str
joined_variants = refl

joined_nothing : binary_row b.Concat str nothing ≡ NoForm
joined_nothing = refl

joined_user_type : binary_row b.Concat (user 0) variant ≡ NoForm
joined_user_type = refl

joined_unknown : binary_row b.Concat str unknown ≡ OverUnknown
joined_unknown = refl

joined_object : binary_row b.Concat str (class 0) ≡ ByDefault
joined_object = refl

-- ---- comparisons

equal_booleans : binary_row b.Equal boolean boolean ≡ Both simple.Boolean simple.Boolean
equal_booleans = refl

boolean_and_number : binary_row b.NotEqual boolean byte ≡ Both simple.Integer simple.Boolean
boolean_and_number = refl

less_in_the_wider : binary_row b.Less integer currency ≡ Both simple.Currency simple.Boolean
less_in_the_wider = refl

greater_texts : binary_row b.Greater str (fixed 2) ≡ Both simple.Str simple.Boolean
greater_texts = refl

text_against_number : binary_row b.LessEqual str long ≡ NoForm
text_against_number = refl

boolean_against_text : binary_row b.GreaterEqual boolean str ≡ NoForm
boolean_against_text = refl

objects_compared : binary_row b.Equal object nothing ≡ ByDefault
objects_compared = refl

compared_over_unknown : binary_row b.Equal unknown str ≡ OverUnknown
compared_over_unknown = refl

-- ---- And, Or, Xor, Eqv and Imp

and_of_booleans : binary_row b.And boolean boolean ≡ Both simple.Boolean simple.Boolean
and_of_booleans = refl

or_of_boolean_and_number : binary_row b.Or boolean byte ≡ Both simple.Integer simple.Integer
or_of_boolean_and_number = refl

xor_of_currency : binary_row b.Xor currency byte ≡ Both simple.Long simple.Long
xor_of_currency = refl

and_of_bytes : binary_row b.And byte byte ≡ Both simple.Byte simple.Byte
and_of_bytes = refl

and_of_text : binary_row b.And str long ≡ NoForm
and_of_text = refl

eqv_of_booleans : binary_row b.Eqv boolean boolean ≡ Both simple.Boolean simple.Boolean
eqv_of_booleans = refl

eqv_of_byte_and_boolean : binary_row b.Eqv byte boolean ≡ Both simple.Integer simple.Integer
eqv_of_byte_and_boolean = refl

eqv_of_currencies : binary_row b.Eqv currency currency ≡ Both simple.Long simple.Long
eqv_of_currencies = refl

eqv_of_bytes : binary_row b.Eqv byte byte ≡ NoForm
eqv_of_bytes = refl

imp_of_byte_and_long : binary_row b.Imp byte long ≡ Both simple.Long simple.Long
imp_of_byte_and_long = refl

imp_of_bytes : binary_row b.Imp byte byte ≡ NoForm
imp_of_bytes = refl

imp_over_unknown : binary_row b.Imp byte unknown ≡ OverUnknown
imp_over_unknown = refl

-- ---- Variants: the other operand is converted to one

variant_and_number : binary_row b.Add variant integer ≡ Both simple.Variant simple.Variant
variant_and_number = refl

text_and_variant : binary_row b.Add str variant ≡ Both simple.Variant simple.Variant
text_and_variant = refl

product_of_variant : binary_row b.Mul variant currency ≡ Both simple.Variant simple.Variant
product_of_variant = refl

text_times_variant : binary_row b.Mul (fixed 3) variant ≡ Both simple.Variant simple.Variant
text_times_variant = refl

compared_variant : binary_row b.Equal variant str ≡ Both simple.Variant simple.Boolean
compared_variant = refl

eqv_of_variants : binary_row b.Eqv variant byte ≡ Both simple.Variant simple.Variant
eqv_of_variants = refl

imp_of_variants : binary_row b.Imp boolean variant ≡ Both simple.Variant simple.Variant
imp_of_variants = refl

variant_and_array : binary_row b.Add variant (array variant 1) ≡ NoForm
variant_and_array = refl

variant_and_nothing : binary_row b.Equal variant nothing ≡ NoForm
variant_and_nothing = refl

variant_and_unknown : binary_row b.And variant unknown ≡ OverUnknown
variant_and_unknown = refl

variant_and_object : binary_row b.Less (class 0) variant ≡ ByDefault
variant_and_object = refl

-- ---- Is

is_of_classes : binary_row b.Is (class 0) (class 1) ≡ Own simple.Boolean
is_of_classes = refl

is_nothing : binary_row b.Is object nothing ≡ Own simple.Boolean
is_nothing = refl

nothing_is_nothing : binary_row b.Is nothing nothing ≡ Own simple.Boolean
nothing_is_nothing = refl

is_of_number : binary_row b.Is object long ≡ NoForm
is_of_number = refl

is_of_variant : binary_row b.Is variant nothing ≡ NoForm
is_of_variant = refl

is_over_unknown : binary_row b.Is unknown nothing ≡ OverUnknown
is_over_unknown = refl

-- ---- operators that aren't translated, whatever their operands are

power : binary_row b.Pow integer integer ≡ Untranslated
power = refl

quotient_with_fraction : binary_row b.Div currency integer ≡ Untranslated
quotient_with_fraction = refl

pattern_over_unknown : binary_row b.Like unknown str ≡ Untranslated
pattern_over_unknown = refl

power_of_object : binary_row b.Pow object integer ≡ Untranslated
power_of_object = refl

-- ---- one operand

minus_integer : unary_row u.Neg integer ≡ Both simple.Integer simple.Integer
minus_integer = refl

minus_currency : unary_row u.Neg currency ≡ Both simple.Currency simple.Currency
minus_currency = refl

minus_boolean : unary_row u.Neg boolean ≡ Both simple.Integer simple.Integer
minus_boolean = refl

minus_variant : unary_row u.Neg variant ≡ Both simple.Variant simple.Variant
minus_variant = refl

minus_byte : unary_row u.Neg byte ≡ NoForm
minus_byte = refl

minus_text : unary_row u.Neg str ≡ NoForm
minus_text = refl

minus_object : unary_row u.Neg (class 0) ≡ ByDefault
minus_object = refl

minus_unknown : unary_row u.Neg unknown ≡ OverUnknown
minus_unknown = refl

not_boolean : unary_row u.Not boolean ≡ Both simple.Boolean simple.Boolean
not_boolean = refl

not_long : unary_row u.Not long ≡ Both simple.Long simple.Long
not_long = refl

not_currency : unary_row u.Not currency ≡ Both simple.Long simple.Long
not_currency = refl

not_variant : unary_row u.Not variant ≡ Both simple.Variant simple.Variant
not_variant = refl

not_byte : unary_row u.Not byte ≡ NoForm
not_byte = refl

not_text : unary_row u.Not (fixed 3) ≡ NoForm
not_text = refl

not_nothing : unary_row u.Not nothing ≡ NoForm
not_nothing = refl

not_unknown : unary_row u.Not unknown ≡ OverUnknown
not_unknown = refl

-- ---- rules

no_form_breaks : rule_of_row NoForm ≡ Some 22
no_form_breaks = refl

untranslated_breaks : rule_of_row Untranslated ≡ Some 2
untranslated_breaks = refl

unknown_breaks_none : rule_of_row OverUnknown ≡ None
unknown_breaks_none = refl
