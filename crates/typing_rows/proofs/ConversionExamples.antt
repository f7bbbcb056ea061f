-- Conversions, and the common types of Select Case, computed. What they are was worked out by hand.
use Rattle.std.proofs.Common.{◌≡◌, [], ◌∷◌, refl, true, false}
use Rattle.vb_tree.specs.BoundTree.{boolean, byte, integer, long, currency, str, fixed, user, class, object, variant, array, nothing, unknown}
use Rattle.vb6_meaning.specs.declared.number.NumberKind.TheVariants as kinds
use Rattle.typing_rows.specs.declared.cases.CaseType.TheVariants as case
use Rattle.typing_rows.specs.declared.conversions.Conversion.TheVariants.{Stands, To, ByDefault, Breaks}
use Rattle.typing_rows.specs.declared.simple_types.SimpleType.TheVariants as simple
use Rattle.typing_rows.specs.Conversions.{converts, assigned, set_to, condition, index, error_number, is_counter, limit, printed}
use Rattle.typing_rows.specs.Cases.{common_type, case_converts}

-- ---- to Boolean and numbers

same_number : converts long long ≡ Stands
same_number = refl

wider_number : converts byte currency ≡ To simple.Currency
wider_number = refl

narrower_number : converts currency integer ≡ To simple.Integer
narrower_number = refl

boolean_to_byte : converts boolean byte ≡ To simple.Byte
boolean_to_byte = refl

number_to_boolean : converts long boolean ≡ To simple.Boolean
number_to_boolean = refl

variant_to_integer : converts variant integer ≡ To simple.Integer
variant_to_integer = refl

text_to_number : converts str long ≡ Breaks 21
text_to_number = refl

fixed_to_boolean : converts (fixed 4) boolean ≡ Breaks 21
fixed_to_boolean = refl

nothing_to_number : converts nothing long ≡ Breaks 21
nothing_to_number = refl

user_type_to_number : converts (user 0) long ≡ Breaks 21
user_type_to_number = refl

array_to_number : converts (array long 1) long ≡ Breaks 21
array_to_number = refl

object_to_number : converts (class 3) long ≡ ByDefault
object_to_number = refl

unknown_to_number : converts unknown byte ≡ Stands
unknown_to_number = refl

-- ---- to String

number_to_text : converts currency str ≡ To simple.Str
number_to_text = refl

boolean_to_text : converts boolean str ≡ To simple.Str
boolean_to_text = refl

fixed_to_text : converts (fixed 4) str ≡ To simple.Str
fixed_to_text = refl

variant_to_text : converts variant str ≡ To simple.Str
variant_to_text = refl

same_text : converts str str ≡ Stands
same_text = refl

array_to_text : converts (array str 0) str ≡ Breaks 21
array_to_text = refl

object_to_text : converts object str ≡ ByDefault
object_to_text = refl

unknown_to_text : converts unknown str ≡ Stands
unknown_to_text = refl

text_to_fixed : converts str (fixed 3) ≡ To (simple.Fixed 3)
text_to_fixed = refl

same_length : converts (fixed 3) (fixed 3) ≡ Stands
same_length = refl

other_length : converts (fixed 5) (fixed 3) ≡ To (simple.Fixed 3)
other_length = refl

user_type_to_fixed : converts (user 0) (fixed 3) ≡ Breaks 21
user_type_to_fixed = refl

unknown_to_fixed : converts unknown (fixed 3) ≡ Stands
unknown_to_fixed = refl

-- ---- to Variant

text_to_variant : converts str variant ≡ To simple.Variant
text_to_variant = refl

fixed_to_variant : converts (fixed 4) variant ≡ To simple.Variant
fixed_to_variant = refl

same_variant : converts variant variant ≡ Stands
same_variant = refl

nothing_to_variant : converts nothing variant ≡ Breaks 21
nothing_to_variant = refl

user_type_to_variant : converts (user 2) variant ≡ Breaks 21
user_type_to_variant = refl

array_to_variant : converts (array long 1) variant ≡ Breaks 5
array_to_variant = refl

object_to_variant : converts (class 0) variant ≡ ByDefault
object_to_variant = refl

unknown_to_variant : converts unknown variant ≡ Stands
unknown_to_variant = refl

-- ---- to objects

class_to_object : converts (class 1) object ≡ To simple.Object
class_to_object = refl

nothing_to_object : converts nothing object ≡ To simple.Object
nothing_to_object = refl

variant_to_object : converts variant object ≡ Breaks 21
variant_to_object = refl

unknown_to_object : converts unknown object ≡ Stands
unknown_to_object = refl

same_class : converts (class 1) (class 1) ≡ Stands
same_class = refl

other_class : converts (class 2) (class 1) ≡ Breaks 21
other_class = refl

object_to_class : converts object (class 1) ≡ Breaks 21
object_to_class = refl

nothing_to_class : converts nothing (class 1) ≡ To (simple.Class 1)
nothing_to_class = refl

number_to_class : converts long (class 1) ≡ Breaks 21
number_to_class = refl

unknown_to_class : converts unknown (class 1) ≡ Stands
unknown_to_class = refl

-- ---- to user types and arrays

same_user_type : converts (user 1) (user 1) ≡ Stands
same_user_type = refl

other_user_type : converts (user 2) (user 1) ≡ Breaks 21
other_user_type = refl

number_to_user_type : converts long (user 1) ≡ Breaks 21
number_to_user_type = refl

object_to_user_type : converts (class 0) (user 1) ≡ ByDefault
object_to_user_type = refl

unknown_to_user_type : converts unknown (user 1) ≡ Stands
unknown_to_user_type = refl

same_elements : converts (array long 1) (array long 0) ≡ Stands
same_elements = refl

other_elements : converts (array integer 1) (array long 1) ≡ Breaks 21
other_elements = refl

elements_of_one_class : converts (array (class 3) 0) (array (class 3) 0) ≡ Stands
elements_of_one_class = refl

elements_of_other_lengths : converts (array (fixed 3) 0) (array (fixed 4) 0) ≡ Breaks 21
elements_of_other_lengths = refl

object_to_array : converts (class 0) (array long 0) ≡ Breaks 21
object_to_array = refl

unknown_to_array : converts unknown (array long 0) ≡ Stands
unknown_to_array = refl

to_what_gives_no_value : converts long nothing ≡ Breaks 21
to_what_gives_no_value = refl

to_unknown : converts (user 0) unknown ≡ Stands
to_unknown = refl

-- ---- assignments

assigned_number : assigned integer long ≡ To simple.Long
assigned_number = refl

assigned_to_fixed : assigned integer (fixed 3) ≡ To simple.Str
assigned_to_fixed = refl

text_assigned_to_fixed : assigned str (fixed 3) ≡ Stands
text_assigned_to_fixed = refl

assigned_text_to_number : assigned str long ≡ Breaks 21
assigned_text_to_number = refl

assigned_array : assigned (array long 1) variant ≡ Breaks 5
assigned_array = refl

assigned_object : assigned object long ≡ ByDefault
assigned_object = refl

assigned_unknown : assigned unknown (fixed 3) ≡ Stands
assigned_unknown = refl

-- ---- Set

set_same_class : set_to (class 1) (class 1) ≡ Stands
set_same_class = refl

set_other_class : set_to (class 1) (class 2) ≡ Breaks 21
set_other_class = refl

set_object : set_to (class 1) object ≡ To simple.Object
set_object = refl

set_class_from_object : set_to object (class 1) ≡ Breaks 21
set_class_from_object = refl

set_nothing : set_to nothing (class 1) ≡ To (simple.Class 1)
set_nothing = refl

set_variant : set_to nothing variant ≡ Breaks 5
set_variant = refl

set_class_from_variant : set_to variant (class 1) ≡ Breaks 21
set_class_from_variant = refl

set_number : set_to (class 1) long ≡ Breaks 21
set_number = refl

set_from_unknown : set_to unknown (class 1) ≡ Stands
set_from_unknown = refl

set_number_from_unknown : set_to unknown long ≡ Stands
set_number_from_unknown = refl

set_unknown : set_to long unknown ≡ Stands
set_unknown = refl

-- ---- conditions, indexes, error numbers, limits and printed items

condition_of_number : condition currency ≡ To simple.Boolean
condition_of_number = refl

condition_of_text : condition str ≡ Breaks 21
condition_of_text = refl

condition_of_unknown : condition unknown ≡ Stands
condition_of_unknown = refl

index_of_variant : index variant ≡ To simple.Long
index_of_variant = refl

index_of_text : index str ≡ Breaks 21
index_of_text = refl

index_of_unknown : index unknown ≡ Stands
index_of_unknown = refl

error_of_integer : error_number integer ≡ To simple.Long
error_of_integer = refl

error_of_text : error_number str ≡ Breaks 21
error_of_text = refl

error_of_unknown : error_number unknown ≡ Stands
error_of_unknown = refl

long_counts : is_counter long ≡ true
long_counts = refl

byte_does_not_count : is_counter byte ≡ false
byte_does_not_count = refl

unknown_does_not_count : is_counter unknown ≡ false
unknown_does_not_count = refl

limit_of_variant : limit variant integer ≡ To simple.Integer
limit_of_variant = refl

limit_of_text : limit str integer ≡ Breaks 21
limit_of_text = refl

limit_of_unknown : limit unknown integer ≡ Stands
limit_of_unknown = refl

printed_number : printed byte ≡ Stands
printed_number = refl

printed_variant : printed variant ≡ Stands
printed_variant = refl

printed_fixed : printed (fixed 2) ≡ Stands
printed_fixed = refl

printed_object : printed object ≡ ByDefault
printed_object = refl

printed_user_type : printed (user 0) ≡ Breaks 21
printed_user_type = refl

printed_nothing : printed nothing ≡ Breaks 21
printed_nothing = refl

printed_unknown : printed unknown ≡ Stands
printed_unknown = refl

-- ---- Select Case

all_texts : common_type (str ∷ fixed 3 ∷ []) ≡ case.Text
all_texts = refl

all_booleans : common_type (boolean ∷ boolean ∷ []) ≡ case.Boolean
all_booleans = refl

widest_number : common_type (byte ∷ integer ∷ currency ∷ long ∷ []) ≡ case.Number kinds.Currency
widest_number = refl

boolean_beside_byte : common_type (boolean ∷ byte ∷ []) ≡ case.Number kinds.Integer
boolean_beside_byte = refl

byte_beside_boolean : common_type (byte ∷ boolean ∷ []) ≡ case.Number kinds.Integer
byte_beside_boolean = refl

unknown_is_left_out : common_type (unknown ∷ long ∷ unknown ∷ []) ≡ case.Number kinds.Long
unknown_is_left_out = refl

text_beside_number : common_type (str ∷ unknown ∷ integer ∷ []) ≡ case.Mixed
text_beside_number = refl

a_variant : common_type (variant ∷ variant ∷ []) ≡ case.Mixed
a_variant = refl

mixed_before_unknown : common_type (variant ∷ unknown ∷ []) ≡ case.Mixed
mixed_before_unknown = refl

only_unknown : common_type (unknown ∷ unknown ∷ []) ≡ case.Open
only_unknown = refl

item_of_widest : case_converts (case.Number kinds.Currency) integer ≡ To simple.Currency
item_of_widest = refl

boolean_item : case_converts (case.Number kinds.Long) boolean ≡ To simple.Long
boolean_item = refl

fixed_item : case_converts case.Text (fixed 3) ≡ To simple.Str
fixed_item = refl

item_of_its_type : case_converts case.Boolean boolean ≡ Stands
item_of_its_type = refl

item_of_mixed : case_converts case.Mixed long ≡ Breaks 21
item_of_mixed = refl

unknown_item_of_mixed : case_converts case.Mixed unknown ≡ Stands
unknown_item_of_mixed = refl

unknown_item : case_converts case.Open unknown ≡ Stands
unknown_item = refl
