-- The library, computed: each call with arguments that it takes, with some that it doesn't, and with one without a type.
use Rattle.std.proofs.Common.{◌≡◌, [], ◌∷◌, codes, refl, true, false, pos, negsuc, Some, None, option_map}
use Rattle.vb_tree.specs.BoundTree.{boolean, byte, integer, long, currency, str, fixed, user, class, object, variant, array, nothing, unknown}
use Rattle.vb_tree.specs.declared.bound.LibCall.TheVariants as lib
use Rattle.vb_tree.specs.declared.token.Suffix.TheVariants as suffix
use Rattle.vb_tree.specs.declared.value.Value6.TheVariants as v
use Rattle.typing_rows.specs.declared.conversions.Conversion.TheVariants.{Stands, To, ByDefault, Breaks}
use Rattle.typing_rows.specs.declared.simple_types.SimpleType.TheVariants as simple
use Rattle.typing_rows.specs.Library.{call_names, library_call, constant_names, library_constant, constant_text, is_library_suffix, has_count, argument, dimension_of, result_type}
use Rattle.typing_rows.specs.LibraryNames.{names_a_to_c, names_d_to_i, names_j_to_p, names_q_to_y, is_library_name}

-- ---- names

left_in_capitals : library_call (codes "LEFT") ≡ Some lib.Left
unfolding library_call call_names
left_in_capitals = refl

input_box : library_call (codes "InputBox") ≡ Some lib.InputBox
unfolding library_call call_names
input_box = refl

replace_is_no_call : library_call (codes "Replace") ≡ None
unfolding library_call call_names
replace_is_no_call = refl

line_end : option_map constant_text (library_constant (codes "vbCrLf")) ≡ Some (13 ∷ 10 ∷ [])
unfolding library_constant constant_names
line_end = refl

tab : option_map constant_text (library_constant (codes "VBTAB")) ≡ Some (9 ∷ [])
unfolding library_constant constant_names
tab = refl

carriage_return : option_map constant_text (library_constant (codes "vbCr")) ≡ Some (13 ∷ [])
unfolding library_constant constant_names
carriage_return = refl

line_feed : option_map constant_text (library_constant (codes "vbLf")) ≡ Some (10 ∷ [])
unfolding library_constant constant_names
line_feed = refl

no_text : option_map constant_text (library_constant (codes "vbNullString")) ≡ Some []
unfolding library_constant constant_names
no_text = refl

critical_is_no_constant : library_constant (codes "vbCritical") ≡ None
unfolding library_constant constant_names
critical_is_no_constant = refl

dollar : is_library_suffix suffix.Str ≡ true
dollar = refl

percent : is_library_suffix suffix.Integer ≡ false
percent = refl

now_is_of_the_library : is_library_name (codes "Now") ≡ true
unfolding is_library_name names_a_to_c names_d_to_i names_j_to_p names_q_to_y
now_is_of_the_library = refl

first_of_the_library : is_library_name (codes "ABS") ≡ true
unfolding is_library_name names_a_to_c names_d_to_i names_j_to_p names_q_to_y
first_of_the_library = refl

format_is_of_the_library : is_library_name (codes "format") ≡ true
unfolding is_library_name names_a_to_c names_d_to_i names_j_to_p names_q_to_y
format_is_of_the_library = refl

last_of_the_library : is_library_name (codes "Year") ≡ true
unfolding is_library_name names_a_to_c names_d_to_i names_j_to_p names_q_to_y
last_of_the_library = refl

prefix_of_the_library : is_library_name (codes "vbOwn") ≡ true
unfolding is_library_name
prefix_of_the_library = refl

other_is_not_of_the_library : is_library_name (codes "other") ≡ false
unfolding is_library_name names_a_to_c names_d_to_i names_j_to_p names_q_to_y
other_is_not_of_the_library = refl

-- ---- counts of arguments

left_of_two : has_count lib.Left 2 ≡ true
left_of_two = refl

left_of_one : has_count lib.Left 1 ≡ false
left_of_one = refl

mid_of_two : has_count lib.Mid 2 ≡ true
mid_of_two = refl

mid_of_three : has_count lib.Mid 3 ≡ true
mid_of_three = refl

mid_of_four : has_count lib.Mid 4 ≡ false
mid_of_four = refl

instr_of_one : has_count lib.InStr 1 ≡ false
instr_of_one = refl

bound_of_one : has_count lib.UBound 1 ≡ true
bound_of_one = refl

bound_of_two : has_count lib.LBound 2 ≡ true
bound_of_two = refl

bound_of_three : has_count lib.LBound 3 ≡ false
bound_of_three = refl

box_of_two : has_count lib.MsgBox 2 ≡ false
box_of_two = refl

trim_of_none : has_count lib.Trim 0 ≡ false
trim_of_none = refl

-- ---- texts and counts

len_of_text : argument lib.Len 0 str ≡ Stands
len_of_text = refl

len_of_fixed : argument lib.Len 0 (fixed 3) ≡ To simple.Str
len_of_fixed = refl

len_of_number : argument lib.Len 0 long ≡ Breaks 3
len_of_number = refl

len_of_variant : argument lib.Len 0 variant ≡ Breaks 3
len_of_variant = refl

len_of_object : argument lib.Len 0 object ≡ ByDefault
len_of_object = refl

len_of_unknown : argument lib.Len 0 unknown ≡ Stands
len_of_unknown = refl

left_of_number : argument lib.Left 0 long ≡ To simple.Str
left_of_number = refl

left_of_array : argument lib.Left 0 (array str 1) ≡ Breaks 21
left_of_array = refl

left_of_object : argument lib.Left 0 (class 0) ≡ ByDefault
left_of_object = refl

left_of_unknown : argument lib.Left 0 unknown ≡ Stands
left_of_unknown = refl

count_of_left : argument lib.Left 1 currency ≡ To simple.Long
count_of_left = refl

count_of_right : argument lib.Right 1 variant ≡ To simple.Long
count_of_right = refl

count_as_text : argument lib.Right 1 str ≡ Breaks 21
count_as_text = refl

third_of_mid : argument lib.Mid 2 boolean ≡ To simple.Long
third_of_mid = refl

third_of_mid_as_text : argument lib.Mid 2 (fixed 1) ≡ Breaks 21
third_of_mid_as_text = refl

third_of_mid_unknown : argument lib.Mid 2 unknown ≡ Stands
third_of_mid_unknown = refl

trim_of_variant : argument lib.Trim 0 variant ≡ To simple.Str
trim_of_variant = refl

ltrim_of_user_type : argument lib.LTrim 0 (user 0) ≡ Breaks 21
ltrim_of_user_type = refl

rtrim_of_unknown : argument lib.RTrim 0 unknown ≡ Stands
rtrim_of_unknown = refl

ucase_of_boolean : argument lib.UCase 0 boolean ≡ To simple.Str
ucase_of_boolean = refl

lcase_of_nothing : argument lib.LCase 0 nothing ≡ Breaks 21
lcase_of_nothing = refl

space_of_integer : argument lib.Space 0 integer ≡ To simple.Long
space_of_integer = refl

space_of_text : argument lib.Space 0 str ≡ Breaks 21
space_of_text = refl

chr_of_long : argument lib.Chr 0 long ≡ Stands
chr_of_long = refl

chr_of_unknown : argument lib.Chr 0 unknown ≡ Stands
chr_of_unknown = refl

asc_of_text : argument lib.Asc 0 str ≡ Stands
asc_of_text = refl

asc_of_array : argument lib.Asc 0 (array byte 1) ≡ Breaks 21
asc_of_array = refl

instr_in_number : argument lib.InStr 0 long ≡ To simple.Str
instr_in_number = refl

instr_of_number : argument lib.InStr 1 integer ≡ To simple.Str
instr_of_number = refl

instr_of_user_type : argument lib.InStr 1 (user 0) ≡ Breaks 21
instr_of_user_type = refl

instr_of_unknown : argument lib.InStr 1 unknown ≡ Stands
instr_of_unknown = refl

box_of_number : argument lib.MsgBox 0 currency ≡ To simple.Str
box_of_number = refl

box_of_array : argument lib.MsgBox 0 (array str 0) ≡ Breaks 21
box_of_array = refl

ask_of_text : argument lib.InputBox 0 str ≡ Stands
ask_of_text = refl

-- ---- Abs

abs_of_byte : argument lib.Abs 0 byte ≡ To simple.Integer
abs_of_byte = refl

abs_of_boolean : argument lib.Abs 0 boolean ≡ To simple.Integer
abs_of_boolean = refl

abs_of_currency : argument lib.Abs 0 currency ≡ Stands
abs_of_currency = refl

abs_of_text : argument lib.Abs 0 str ≡ Breaks 3
abs_of_text = refl

abs_of_variant : argument lib.Abs 0 variant ≡ Breaks 3
abs_of_variant = refl

abs_of_unknown : argument lib.Abs 0 unknown ≡ Stands
abs_of_unknown = refl

type_of_abs_of_byte : result_type lib.Abs byte ≡ Some simple.Integer
type_of_abs_of_byte = refl

type_of_abs_of_boolean : result_type lib.Abs boolean ≡ Some simple.Integer
type_of_abs_of_boolean = refl

type_of_abs_of_long : result_type lib.Abs long ≡ Some simple.Long
type_of_abs_of_long = refl

type_of_abs_of_currency : result_type lib.Abs currency ≡ Some simple.Currency
type_of_abs_of_currency = refl

type_of_abs_of_text : result_type lib.Abs str ≡ None
type_of_abs_of_text = refl

type_of_abs_of_unknown : result_type lib.Abs unknown ≡ None
type_of_abs_of_unknown = refl

-- ---- conversions, whose argument stands as it is

to_byte : argument lib.CByte 0 integer ≡ Stands
to_byte = refl

to_integer_of_variant : argument lib.CInt 0 variant ≡ Stands
to_integer_of_variant = refl

to_long_of_text : argument lib.CLng 0 str ≡ Breaks 21
to_long_of_text = refl

to_currency_of_user_type : argument lib.CCur 0 (user 0) ≡ Breaks 21
to_currency_of_user_type = refl

to_text_of_text : argument lib.CStr 0 str ≡ Stands
to_text_of_text = refl

to_text_of_object : argument lib.CStr 0 (class 0) ≡ ByDefault
to_text_of_object = refl

to_boolean_of_unknown : argument lib.CBool 0 unknown ≡ Stands
to_boolean_of_unknown = refl

-- ---- IsEmpty, UBound and LBound

empty_of_variant : argument lib.IsEmpty 0 variant ≡ Stands
empty_of_variant = refl

empty_of_number : argument lib.IsEmpty 0 long ≡ Breaks 3
empty_of_number = refl

empty_of_unknown : argument lib.IsEmpty 0 unknown ≡ Stands
empty_of_unknown = refl

bound_of_array : argument lib.UBound 0 (array long 1) ≡ Stands
bound_of_array = refl

bound_of_number : argument lib.UBound 0 long ≡ Breaks 3
bound_of_number = refl

bound_of_object : argument lib.LBound 0 (class 0) ≡ Breaks 3
bound_of_object = refl

bound_of_unknown : argument lib.LBound 0 unknown ≡ Stands
bound_of_unknown = refl

dimension_of_number : argument lib.UBound 1 integer ≡ Stands
dimension_of_number = refl

dimension_of_text : argument lib.LBound 1 str ≡ Breaks 3
dimension_of_text = refl

dimension_of_unknown : argument lib.LBound 1 unknown ≡ Stands
dimension_of_unknown = refl

first_dimension : dimension_of (v.Int (pos 1)) ≡ Some 1
first_dimension = refl

second_dimension : dimension_of (v.Cur (pos 20000)) ≡ Some 2
second_dimension = refl

third_dimension : dimension_of (v.Long (pos 3)) ≡ None
third_dimension = refl

no_dimension : dimension_of (v.Byte 0) ≡ None
no_dimension = refl

negative_dimension : dimension_of (v.Int (negsuc 0)) ≡ None
negative_dimension = refl

one_and_a_half : dimension_of (v.Cur (pos 15000)) ≡ None
one_and_a_half = refl

truth_is_no_dimension : dimension_of (v.Boolean true) ≡ None
truth_is_no_dimension = refl

-- ---- what the other calls give

type_of_len : result_type lib.Len str ≡ Some simple.Long
type_of_len = refl

type_of_left : result_type lib.Left long ≡ Some simple.Str
type_of_left = refl

type_of_asc : result_type lib.Asc str ≡ Some simple.Integer
type_of_asc = refl

type_of_instr : result_type lib.InStr str ≡ Some simple.Long
type_of_instr = refl

type_of_to_boolean : result_type lib.CBool long ≡ Some simple.Boolean
type_of_to_boolean = refl

type_of_to_byte : result_type lib.CByte long ≡ Some simple.Byte
type_of_to_byte = refl

type_of_is_empty : result_type lib.IsEmpty variant ≡ Some simple.Boolean
type_of_is_empty = refl

type_of_bound : result_type lib.UBound (array str 2) ≡ Some simple.Long
type_of_bound = refl

box_gives_no_value : result_type lib.MsgBox str ≡ None
box_gives_no_value = refl

type_of_ask : result_type lib.InputBox str ≡ Some simple.Str
type_of_ask = refl
