-- The library: its calls by their names, what arguments they take, and what they give; and its constants.
use Rattle.std.specs.Prelude.{ℕ, nat_eq, nat_le, Bool, true, false, cond, ◌&&◌, ℤ, pos, codes, List, [], ◌∷◌, find, Option, Some, None, option_map}
use Rattle.std.specs.Ordering.{int_eq}
use Rattle.std.specs.Cmp.Lexicographic.{pointwise}
use Rattle.up_base.specs.Names.{lower_case}
use Rattle.vb_tree.specs.BoundTree.{Ty, long, str, array, unknown}
use Rattle.vb_tree.specs.declared.bound.LibCall.{LibCall}
use Rattle.vb_tree.specs.declared.bound.LibCall.TheVariants as lib
use Rattle.vb_tree.specs.declared.token.Suffix.{Suffix}
use Rattle.vb_tree.specs.declared.token.Suffix.TheVariants as suffix
use Rattle.vb_tree.specs.declared.value.Value6.{Value6}
use Rattle.vb_tree.specs.declared.value.Value6.TheVariants as v
use Rattle.vb6_meaning.specs.declared.number.NumberKind.{NumberKind}
use Rattle.vb6_meaning.specs.declared.number.NumberKind.TheVariants as kinds
use Rattle.vb6_meaning.specs.Library.{signed_kind}
use Rattle.typing_rows.specs.declared.conversions.Conversion.{Conversion}
use Rattle.typing_rows.specs.declared.conversions.Conversion.TheVariants.{Stands, To, ByDefault, Breaks}
use Rattle.typing_rows.specs.declared.library.TextConstant.{TextConstant}
use Rattle.typing_rows.specs.declared.library.TextConstant.TheVariants as constants
use Rattle.typing_rows.specs.declared.library.Wanted.{Wanted}
use Rattle.typing_rows.specs.declared.library.Wanted.TheVariants as wants
use Rattle.typing_rows.specs.declared.operands.Operand.{Operand}
use Rattle.typing_rows.specs.declared.operands.Operand.TheVariants as operand
use Rattle.typing_rows.specs.declared.simple_types.SimpleType.{SimpleType}
use Rattle.typing_rows.specs.declared.simple_types.SimpleType.TheVariants as simple
use Rattle.typing_rows.specs.Types.{ty_of, type_of_kind, operand_of, is_type}
use Rattle.typing_rows.specs.Conversions.{converts}

-- ---- names

-- the row of a word in small letters
abbrev pub look_up : {A : Type 0} → List (List ℕ × A) → List ℕ → Option A
look_up rows word = option_map (λ r. r.1) (find (λ r. pointwise nat_eq word r.0) rows)

-- the calls by their names in small letters
unfoldable pub call_names : List (List ℕ × LibCall)
call_names =
    (codes "len", lib.Len)
    ∷ (codes "left", lib.Left)
    ∷ (codes "right", lib.Right)
    ∷ (codes "mid", lib.Mid)
    ∷ (codes "trim", lib.Trim)
    ∷ (codes "ltrim", lib.LTrim)
    ∷ (codes "rtrim", lib.RTrim)
    ∷ (codes "ucase", lib.UCase)
    ∷ (codes "lcase", lib.LCase)
    ∷ (codes "space", lib.Space)
    ∷ (codes "chr", lib.Chr)
    ∷ (codes "asc", lib.Asc)
    ∷ (codes "instr", lib.InStr)
    ∷ (codes "abs", lib.Abs)
    ∷ (codes "cbool", lib.CBool)
    ∷ (codes "cbyte", lib.CByte)
    ∷ (codes "cint", lib.CInt)
    ∷ (codes "clng", lib.CLng)
    ∷ (codes "ccur", lib.CCur)
    ∷ (codes "cstr", lib.CStr)
    ∷ (codes "isempty", lib.IsEmpty)
    ∷ (codes "ubound", lib.UBound)
    ∷ (codes "lbound", lib.LBound)
    ∷ (codes "msgbox", lib.MsgBox)
    ∷ (codes "inputbox", lib.InputBox)
    ∷ []

-- the call that a name stands for, letters compared without case
unfoldable pub library_call : List ℕ → Option LibCall
library_call name = look_up call_names (lower_case name)

-- the constants by their names in small letters
unfoldable pub constant_names : List (List ℕ × TextConstant)
constant_names =
    (codes "vbcr", constants.CarriageReturn)
    ∷ (codes "vblf", constants.LineFeed)
    ∷ (codes "vbcrlf", constants.LineEnd)
    ∷ (codes "vbtab", constants.Tab)
    ∷ (codes "vbnullstring", constants.NoText)
    ∷ []

-- the constant that a name stands for, letters compared without case
unfoldable pub library_constant : List ℕ → Option TextConstant
library_constant name = look_up constant_names (lower_case name)

-- the text of a constant
abbrev pub constant_text : TextConstant → List ℕ
constant_text constants.CarriageReturn = 13 ∷ []
constant_text constants.LineFeed = 10 ∷ []
constant_text constants.LineEnd = 13 ∷ 10 ∷ []
constant_text constants.Tab = 9 ∷ []
constant_text constants.NoText = []

-- whether a name of the library may have a suffix: `$` or none
abbrev pub is_library_suffix : Suffix → Bool
is_library_suffix suffix.Absent = true
is_library_suffix suffix.Str = true
is_library_suffix _ = false

-- ---- arguments

abbrev pub least_count : LibCall → ℕ
least_count lib.Left = 2
least_count lib.Right = 2
least_count lib.Mid = 2
least_count lib.InStr = 2
least_count _ = 1

abbrev pub most_count : LibCall → ℕ
most_count lib.Left = 2
most_count lib.Right = 2
most_count lib.Mid = 3
most_count lib.InStr = 2
most_count lib.UBound = 2
most_count lib.LBound = 2
most_count _ = 1

-- whether a call has so many arguments
abbrev pub has_count : LibCall → ℕ → Bool
has_count f count = nat_le (least_count f) count && nat_le count (most_count f)

-- what the first argument of a call is to be
abbrev pub first_wanted : LibCall → Wanted
first_wanted lib.Len = wants.OnlyText
first_wanted lib.Left = wants.Text
first_wanted lib.Right = wants.Text
first_wanted lib.Mid = wants.Text
first_wanted lib.Trim = wants.Text
first_wanted lib.LTrim = wants.Text
first_wanted lib.RTrim = wants.Text
first_wanted lib.UCase = wants.Text
first_wanted lib.LCase = wants.Text
first_wanted lib.Space = wants.Count
first_wanted lib.Chr = wants.Count
first_wanted lib.Asc = wants.Text
first_wanted lib.InStr = wants.Text
first_wanted lib.Abs = wants.Number
first_wanted lib.CBool = wants.Converted simple.Boolean
first_wanted lib.CByte = wants.Converted simple.Byte
first_wanted lib.CInt = wants.Converted simple.Integer
first_wanted lib.CLng = wants.Converted simple.Long
first_wanted lib.CCur = wants.Converted simple.Currency
first_wanted lib.CStr = wants.Converted simple.Str
first_wanted lib.IsEmpty = wants.Variant
first_wanted lib.UBound = wants.Array
first_wanted lib.LBound = wants.Array
first_wanted lib.MsgBox = wants.Text
first_wanted lib.InputBox = wants.Text

-- what each later one is to be
abbrev pub later_wanted : LibCall → Wanted
later_wanted lib.InStr = wants.Text
later_wanted lib.UBound = wants.Dimension
later_wanted lib.LBound = wants.Dimension
later_wanted _ = wants.Count

-- what the argument at a place, counted from 0, is to be
abbrev pub argument_wanted : LibCall → (place : ℕ) → Wanted
argument_wanted f place = cond (nat_eq place 0) (first_wanted f) (later_wanted f)

-- a String alone; a call with anything else is declared nowhere
abbrev pub text_alone : Operand → Conversion
text_alone operand.Text = To simple.Str
text_alone operand.Object = ByDefault
text_alone operand.Unknown = Stands
text_alone _ = Breaks 3

abbrev pub only_text : Ty → Conversion
only_text s = cond (is_type simple.Str s) Stands (text_alone (operand_of s))

-- a number alone, a Byte and a Boolean as an Integer
abbrev pub number_alone : NumberKind → Conversion
number_alone kinds.Byte = To simple.Integer
number_alone kinds.Integer = Stands
number_alone kinds.Long = Stands
number_alone kinds.Currency = Stands

abbrev pub only_number : Operand → Conversion
only_number operand.Boolean = To simple.Integer
only_number (operand.Number k) = number_alone k
only_number operand.Object = ByDefault
only_number operand.Unknown = Stands
only_number _ = Breaks 3

abbrev pub only_variant : Operand → Conversion
only_variant operand.Variant = Stands
only_variant operand.Object = ByDefault
only_variant operand.Unknown = Stands
only_variant _ = Breaks 3

abbrev pub only_array : Ty → Conversion
only_array (array element rank) = Stands
only_array unknown = Stands
only_array _ = Breaks 3

-- a dimension is a constant, which has a number
abbrev pub dimension : Operand → Conversion
dimension (operand.Number k) = Stands
dimension operand.Variant = Stands
dimension operand.Unknown = Stands
dimension _ = Breaks 3

-- a conversion takes its argument as it stands
abbrev pub kept : Conversion → Conversion
kept (To t) = Stands
kept Stands = Stands
kept ByDefault = ByDefault
kept (Breaks rule) = Breaks rule

-- what becomes of an argument of a type where one is wanted
abbrev pub given : Wanted → Ty → Conversion
given wants.Text s = converts s str
given wants.Count s = converts s long
given wants.OnlyText s = only_text s
given wants.Number s = only_number (operand_of s)
given wants.Variant s = only_variant (operand_of s)
given wants.Array s = only_array s
given wants.Dimension s = dimension (operand_of s)
given (wants.Converted t) s = kept (converts s (ty_of t))

-- what becomes of the argument at a place of a call
abbrev pub argument : LibCall → (place : ℕ) → Ty → Conversion
argument f place s = given (argument_wanted f place) s

-- ---- dimensions

abbrev pub dimension_at : (one two z : ℤ) → Option ℕ
dimension_at one two z = cond (int_eq z one) (Some 1) (cond (int_eq z two) (Some 2) None)

-- the dimension that a constant is: a number that equals 1 or 2
abbrev pub dimension_of : Value6 → Option ℕ
dimension_of (v.Byte n) = dimension_at (pos 1) (pos 2) (pos n)
dimension_of (v.Int z) = dimension_at (pos 1) (pos 2) z
dimension_of (v.Long z) = dimension_at (pos 1) (pos 2) z
dimension_of (v.Cur z) = dimension_at (pos 10000) (pos 20000) z
dimension_of _ = None

-- ---- results

-- Abs of a Byte is an Integer
abbrev pub absolute : Operand → Option SimpleType
absolute operand.Boolean = Some simple.Integer
absolute (operand.Number k) = Some (type_of_kind (signed_kind k))
absolute _ = None

-- the type of a call by that of its first argument; none where it gives no value
abbrev pub result_type : LibCall → (first : Ty) → Option SimpleType
result_type lib.Len s = Some simple.Long
result_type lib.Left s = Some simple.Str
result_type lib.Right s = Some simple.Str
result_type lib.Mid s = Some simple.Str
result_type lib.Trim s = Some simple.Str
result_type lib.LTrim s = Some simple.Str
result_type lib.RTrim s = Some simple.Str
result_type lib.UCase s = Some simple.Str
result_type lib.LCase s = Some simple.Str
result_type lib.Space s = Some simple.Str
result_type lib.Chr s = Some simple.Str
result_type lib.Asc s = Some simple.Integer
result_type lib.InStr s = Some simple.Long
result_type lib.Abs s = absolute (operand_of s)
result_type lib.CBool s = Some simple.Boolean
result_type lib.CByte s = Some simple.Byte
result_type lib.CInt s = Some simple.Integer
result_type lib.CLng s = Some simple.Long
result_type lib.CCur s = Some simple.Currency
result_type lib.CStr s = Some simple.Str
result_type lib.IsEmpty s = Some simple.Boolean
result_type lib.UBound s = Some simple.Long
result_type lib.LBound s = Some simple.Long
result_type lib.MsgBox s = None
result_type lib.InputBox s = Some simple.Str
