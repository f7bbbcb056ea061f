-- Conversions of a value to a type. (Visual Basic Language Specification, conversions.)
use Rattle.std.specs.Prelude.{ℕ, ◌^◌, Bool, true, false, not, if◌then◌else◌, ℤ, pos, negsuc}
use Rattle.std.specs.Ordering.{int_eq}
use Rattle.std.specs.Fmt.{signed_decimal}
use Rattle.vb6_meaning.specs.Answers.{Answer, gives, outside}
use Rattle.vb6_meaning.specs.Rounding.{rounded}
use Rattle.vb6_meaning.specs.NumberTexts.{boolean_text}
use Rattle.net_meaning.specs.declared.value.ValueN.{ValueN}
use Rattle.net_meaning.specs.declared.value.ValueN.TheVariants as v
use Rattle.net_meaning.specs.declared.whole.WholeKind.{WholeKind}
use Rattle.net_meaning.specs.declared.whole.WholeKind.TheVariants.{Byte, Short, Integer, Long}
use Rattle.net_meaning.specs.Whole.{whole, number}
use Rattle.net_meaning.specs.Decimals.{is_decimal, decimal}
use Rattle.net_tree.specs.Types as t
use Rattle.net_tree.specs.Types.{TypeName}

abbrev pub is_nonzero : ℤ → Bool
is_nonzero z = not (int_eq z (pos 0))

-- what isn't zero is True
abbrev pub to_boolean : ValueN → Answer ValueN
to_boolean (v.Boolean b) = gives (v.Boolean b)
to_boolean (v.Byte n) = gives (v.Boolean (is_nonzero (pos n)))
to_boolean (v.Short z) = gives (v.Boolean (is_nonzero z))
to_boolean (v.Integer z) = gives (v.Boolean (is_nonzero z))
to_boolean (v.Long z) = gives (v.Boolean (is_nonzero z))
to_boolean (v.Decimal m s) = if is_decimal m s then gives (v.Boolean (is_nonzero m)) else outside
to_boolean (v.Str units) = outside
to_boolean v.Nothing = gives (v.Boolean false)
to_boolean (v.Object k) = outside
to_boolean (v.Array k) = outside

-- True is -1, and 255 as a Byte
abbrev pub truth : WholeKind → Bool → ℤ
truth k false = pos 0
truth Byte true = pos 255
truth Short true = negsuc 0
truth Integer true = negsuc 0
truth Long true = negsuc 0

-- a Decimal is rounded, from halfway to the even number
abbrev pub decimal_to_whole : WholeKind → ℤ → ℕ → Answer ValueN
decimal_to_whole k m s = if is_decimal m s then whole k (rounded m (10 ^ s)) else outside

abbrev pub to_whole : WholeKind → ValueN → Answer ValueN
to_whole k (v.Boolean b) = gives (number k (truth k b))
to_whole k (v.Byte n) = whole k (pos n)
to_whole k (v.Short z) = whole k z
to_whole k (v.Integer z) = whole k z
to_whole k (v.Long z) = whole k z
to_whole k (v.Decimal m s) = decimal_to_whole k m s
to_whole k (v.Str units) = outside
to_whole k v.Nothing = gives (number k (pos 0))
to_whole k (v.Object n) = outside
to_whole k (v.Array n) = outside

abbrev pub to_decimal : ValueN → Answer ValueN
to_decimal (v.Boolean b) = gives (v.Decimal (truth Long b) 0)
to_decimal (v.Byte n) = gives (v.Decimal (pos n) 0)
to_decimal (v.Short z) = gives (v.Decimal z 0)
to_decimal (v.Integer z) = gives (v.Decimal z 0)
to_decimal (v.Long z) = gives (v.Decimal z 0)
to_decimal (v.Decimal m s) = decimal m s
to_decimal (v.Str units) = outside
to_decimal v.Nothing = gives (v.Decimal (pos 0) 0)
to_decimal (v.Object k) = outside
to_decimal (v.Array k) = outside

-- a Decimal has no row here: the text of a Currency is made by a support function
abbrev pub to_text : ValueN → Answer ValueN
to_text (v.Boolean b) = gives (v.Str (boolean_text b))
to_text (v.Byte n) = gives (v.Str (signed_decimal (pos n)))
to_text (v.Short z) = gives (v.Str (signed_decimal z))
to_text (v.Integer z) = gives (v.Str (signed_decimal z))
to_text (v.Long z) = gives (v.Str (signed_decimal z))
to_text (v.Decimal m s) = outside
to_text (v.Str units) = gives (v.Str units)
to_text v.Nothing = gives v.Nothing
to_text (v.Object k) = outside
to_text (v.Array k) = outside

-- an Object holds a value of any type but an array
abbrev pub to_object : ValueN → Answer ValueN
to_object (v.Array k) = outside
to_object x = gives x

-- an object goes to each class, since its own class is known to the store alone
abbrev pub to_class : ValueN → Answer ValueN
to_class v.Nothing = gives v.Nothing
to_class (v.Object k) = gives (v.Object k)
to_class x = outside

-- an array stays as it stands
abbrev pub to_array : ValueN → Answer ValueN
to_array (v.Array k) = gives (v.Array k)
to_array x = outside

-- the value of a type that a value is converted to
abbrev pub coerce_net : ValueN → TypeName → Answer ValueN
coerce_net x t.boolean = to_boolean x
coerce_net x t.byte = to_whole Byte x
coerce_net x t.short = to_whole Short x
coerce_net x t.integer = to_whole Integer x
coerce_net x t.long = to_whole Long x
coerce_net x t.decimal = to_decimal x
coerce_net x t.str = to_text x
coerce_net x t.object = to_object x
coerce_net x t.system_array = to_array x
coerce_net x (t.named path) = to_class x
coerce_net x (t.array_of element rank) = to_array x
