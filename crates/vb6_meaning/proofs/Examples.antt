-- Worked examples of the definitions, computed.
use Rattle.std.proofs.Common.{◌≡◌, pos, negsuc, true, false, [], ◌∷◌, refl}
use Rattle.std.specs.Fmt.{digits}
use Rattle.vb_tree.specs.BoundTree.{byte, integer, long, str, fixed}
use Rattle.vb_tree.specs.declared.bound.Op6.TheVariants.{Typed, Variant}
use Rattle.vb_tree.specs.declared.expression.BinOp.TheVariants as b
use Rattle.vb_tree.specs.declared.value.Value6.TheVariants as v
use Rattle.vb6_meaning.specs.Answers.{gives, raises, outside}
use Rattle.vb6_meaning.specs.Bits.{from_bits}
use Rattle.vb_tree.specs.declared.bound.LibCall.TheVariants as l
use Rattle.vb6_meaning.specs.Library.{call}
use Rattle.vb6_meaning.specs.NumberTexts.{print_text}
use Rattle.vb6_meaning.specs.Values.{coerce, operate}

-- conversions
half_to_even_down : coerce (v.Cur (pos 25000)) integer ≡ gives (v.Int (pos 2))
half_to_even_down = refl

half_to_even_up : coerce (v.Cur (pos 35000)) integer ≡ gives (v.Int (pos 4))
half_to_even_up = refl

half_of_a_negative : coerce (v.Cur (negsuc 24999)) long ≡ gives (v.Long (negsuc 1))
half_of_a_negative = refl

half_of_one : coerce (v.Cur (pos 5000)) byte ≡ gives (v.Byte 0)
half_of_one = refl

long_past_integer : coerce (v.Long (pos 32768)) integer ≡ raises 6
long_past_integer = refl

true_as_byte : coerce (v.Boolean true) byte ≡ gives (v.Byte 255)
true_as_byte = refl

text_to_number : coerce (v.Str (53 ∷ [])) integer ≡ outside
text_to_number = refl

long_as_text : coerce (v.Long (negsuc 119)) str ≡ gives (v.Str (45 ∷ 49 ∷ 50 ∷ 48 ∷ []))
unfolding digits
long_as_text = refl

currency_as_text : coerce (v.Cur (negsuc 1234499)) str ≡ gives (v.Str (45 ∷ 49 ∷ 50 ∷ 51 ∷ 46 ∷ 52 ∷ 53 ∷ []))
unfolding digits
currency_as_text = refl

small_currency_printed : print_text (v.Cur (pos 50)) ≡ gives (32 ∷ 48 ∷ 46 ∷ 48 ∷ 48 ∷ 53 ∷ 32 ∷ [])
unfolding digits
small_currency_printed = refl

printed_byte : print_text (v.Byte 5) ≡ gives (32 ∷ 53 ∷ 32 ∷ [])
unfolding digits
printed_byte = refl

printed_negative : print_text (v.Int (negsuc 2)) ≡ gives (45 ∷ 51 ∷ 32 ∷ [])
unfolding digits
printed_negative = refl

printed_truth : print_text (v.Boolean false) ≡ gives (70 ∷ 97 ∷ 108 ∷ 115 ∷ 101 ∷ [])
printed_truth = refl

padded : coerce (v.Boolean true) (fixed 6) ≡ gives (v.Str (84 ∷ 114 ∷ 117 ∷ 101 ∷ 32 ∷ 32 ∷ []))
padded = refl

-- operators
integers_overflow : operate (Typed b.Add) (v.Int (pos 32767)) (v.Int (pos 1)) ≡ raises 6
integers_overflow = refl

byte_and_integer : operate (Typed b.Add) (v.Byte 200) (v.Int (pos 100)) ≡ gives (v.Int (pos 300))
byte_and_integer = refl

zero_divisor : operate (Typed b.IntDiv) (v.Long (pos 7)) (v.Long (pos 0)) ≡ raises 11
zero_divisor = refl

least_by_minus_one : operate (Typed b.IntDiv) (v.Int (negsuc 32767)) (v.Int (negsuc 0)) ≡ outside
least_by_minus_one = refl

sign_of_mod : operate (Typed b.Mod) (v.Int (negsuc 6)) (v.Int (pos 3)) ≡ gives (v.Int (negsuc 0))
sign_of_mod = refl

bits_of_negative : operate (Typed b.And) (v.Int (negsuc 255)) (v.Long (pos 4660)) ≡ gives (v.Long (pos 4608))
unfolding from_bits
bits_of_negative = refl

all_bits : operate (Typed b.Eqv) (v.Int (pos 12)) (v.Int (pos 10)) ≡ gives (v.Int (negsuc 6))
unfolding from_bits
all_bits = refl

byte_leaves : operate (Variant b.Add) (v.Byte 200) (v.Byte 100) ≡ gives (v.Int (pos 300))
byte_leaves = refl

byte_product_leaves : operate (Variant b.Mul) (v.Byte 255) (v.Byte 255) ≡ gives (v.Long (pos 65025))
byte_product_leaves = refl

long_leaves : operate (Variant b.Add) (v.Long (pos 2147483647)) (v.Boolean false) ≡ gives (v.Long (pos 2147483647))
long_leaves = refl

currency_sum : operate (Typed b.Add) (v.Cur (pos 2500)) (v.Byte 2) ≡ gives (v.Cur (pos 22500))
currency_sum = refl

texts_in_order : operate (Typed b.Less) (v.Str (97 ∷ [])) (v.Str (97 ∷ 98 ∷ [])) ≡ gives (v.Boolean true)
texts_in_order = refl

true_below_false : operate (Typed b.Less) (v.Boolean true) (v.Boolean false) ≡ gives (v.Boolean true)
true_below_false = refl

-- library calls, on "abc", " b " and so on
length_of_text : call l.Len (v.Str (97 ∷ 98 ∷ 99 ∷ []) ∷ []) ≡ gives (v.Long (pos 3))
length_of_text = refl

left_past_end : call l.Left (v.Str (97 ∷ 98 ∷ []) ∷ v.Long (pos 5) ∷ []) ≡ gives (v.Str (97 ∷ 98 ∷ []))
left_past_end = refl

left_of_less : call l.Left (v.Str (97 ∷ []) ∷ v.Long (negsuc 0) ∷ []) ≡ raises 5
left_of_less = refl

right_part : call l.Right (v.Str (97 ∷ 98 ∷ 99 ∷ []) ∷ v.Long (pos 2) ∷ []) ≡ gives (v.Str (98 ∷ 99 ∷ []))
right_part = refl

middle : call l.Mid (v.Str (97 ∷ 98 ∷ 99 ∷ []) ∷ v.Long (pos 2) ∷ v.Long (pos 1) ∷ []) ≡ gives (v.Str (98 ∷ []))
middle = refl

middle_from_zero : call l.Mid (v.Str (97 ∷ []) ∷ v.Long (pos 0) ∷ []) ≡ raises 5
middle_from_zero = refl

middle_past_end : call l.Mid (v.Str (97 ∷ []) ∷ v.Long (pos 3) ∷ []) ≡ gives (v.Str [])
middle_past_end = refl

trimmed : call l.Trim (v.Str (32 ∷ 98 ∷ 32 ∷ []) ∷ []) ≡ gives (v.Str (98 ∷ []))
trimmed = refl

trimmed_behind : call l.RTrim (v.Str (32 ∷ 98 ∷ 32 ∷ []) ∷ []) ≡ gives (v.Str (32 ∷ 98 ∷ []))
trimmed_behind = refl

capitals : call l.UCase (v.Str (97 ∷ 66 ∷ 49 ∷ []) ∷ []) ≡ gives (v.Str (65 ∷ 66 ∷ 49 ∷ []))
capitals = refl

capitals_past_ascii : call l.UCase (v.Str (228 ∷ []) ∷ []) ≡ outside
capitals_past_ascii = refl

blanks : call l.Space (v.Long (pos 2) ∷ []) ≡ gives (v.Str (32 ∷ 32 ∷ []))
blanks = refl

last_plain_character : call l.Chr (v.Long (pos 127) ∷ []) ≡ gives (v.Str (127 ∷ []))
last_plain_character = refl

character_of_128 : call l.Chr (v.Long (pos 128) ∷ []) ≡ outside
character_of_128 = refl

character_of_256 : call l.Chr (v.Long (pos 256) ∷ []) ≡ raises 5
character_of_256 = refl

number_of_nothing : call l.Asc (v.Str [] ∷ []) ≡ raises 5
number_of_nothing = refl

found : call l.InStr (v.Str (97 ∷ 98 ∷ 97 ∷ 98 ∷ []) ∷ v.Str (98 ∷ 97 ∷ []) ∷ []) ≡ gives (v.Long (pos 2))
found = refl

found_nowhere : call l.InStr (v.Str (97 ∷ 98 ∷ []) ∷ v.Str (98 ∷ 97 ∷ []) ∷ []) ≡ gives (v.Long (pos 0))
found_nowhere = refl

nothing_found : call l.InStr (v.Str (97 ∷ []) ∷ v.Str [] ∷ []) ≡ gives (v.Long (pos 1))
nothing_found = refl

found_in_nothing : call l.InStr (v.Str [] ∷ v.Str [] ∷ []) ≡ gives (v.Long (pos 0))
found_in_nothing = refl

absolute_byte : call l.Abs (v.Byte 7 ∷ []) ≡ gives (v.Int (pos 7))
absolute_byte = refl

absolute_least : call l.Abs (v.Int (negsuc 32767) ∷ []) ≡ raises 6
absolute_least = refl
