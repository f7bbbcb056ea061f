-- Types as the rows of operators and conversions see them.
use Rattle.std.specs.Prelude.{nat_eq, Bool, true, false, Option, Some, None}
use Rattle.vb_tree.specs.BoundTree.{Ty, boolean, byte, integer, long, currency, str, fixed, user, class, object, variant, array, nothing, unknown}
use Rattle.vb6_meaning.specs.declared.number.NumberKind.{NumberKind}
use Rattle.vb6_meaning.specs.declared.number.NumberKind.TheVariants as kinds
use Rattle.typing_rows.specs.declared.operands.Operand.{Operand}
use Rattle.typing_rows.specs.declared.operands.Operand.TheVariants as operand
use Rattle.typing_rows.specs.declared.simple_types.SimpleType.{SimpleType}
use Rattle.typing_rows.specs.declared.simple_types.SimpleType.TheVariants as simple

-- the type that a type of single values is
abbrev pub ty_of : SimpleType → Ty
ty_of simple.Boolean = boolean
ty_of simple.Byte = byte
ty_of simple.Integer = integer
ty_of simple.Long = long
ty_of simple.Currency = currency
ty_of simple.Str = str
ty_of (simple.Fixed units) = fixed units
ty_of (simple.Class k) = class k
ty_of simple.Object = object
ty_of simple.Variant = variant

abbrev pub type_of_kind : NumberKind → SimpleType
type_of_kind kinds.Byte = simple.Byte
type_of_kind kinds.Integer = simple.Integer
type_of_kind kinds.Long = simple.Long
type_of_kind kinds.Currency = simple.Currency

-- whether a type is a given one
abbrev pub is_type : SimpleType → Ty → Bool
is_type simple.Boolean boolean = true
is_type simple.Byte byte = true
is_type simple.Integer integer = true
is_type simple.Long long = true
is_type simple.Currency currency = true
is_type simple.Str str = true
is_type (simple.Fixed m) (fixed n) = nat_eq m n
is_type (simple.Class k) (class l) = nat_eq k l
is_type simple.Object object = true
is_type simple.Variant variant = true
is_type t _ = false

-- a type as one of an operand: a String of a fixed length reads as a String
abbrev pub operand_of : Ty → Operand
operand_of boolean = operand.Boolean
operand_of byte = operand.Number kinds.Byte
operand_of integer = operand.Number kinds.Integer
operand_of long = operand.Number kinds.Long
operand_of currency = operand.Number kinds.Currency
operand_of str = operand.Text
operand_of (fixed units) = operand.Text
operand_of (user k) = operand.Other
operand_of (class k) = operand.Object
operand_of object = operand.Object
operand_of variant = operand.Variant
operand_of (array element rank) = operand.Other
operand_of nothing = operand.Nothing
operand_of unknown = operand.Unknown

-- the kind of number that an operand counts as: a Boolean is an Integer
abbrev pub kind_of : Operand → Option NumberKind
kind_of operand.Boolean = Some kinds.Integer
kind_of (operand.Number k) = Some k
kind_of _ = None

abbrev pub is_boolean : Operand → Bool
is_boolean operand.Boolean = true
is_boolean _ = false

abbrev pub is_text : Operand → Bool
is_text operand.Text = true
is_text _ = false

abbrev pub is_variant : Operand → Bool
is_variant operand.Variant = true
is_variant _ = false

-- whether an operand is an object, which in all but the operator Is gives way to its default member
abbrev pub is_object : Operand → Bool
is_object operand.Object = true
is_object _ = false

abbrev pub is_unknown : Operand → Bool
is_unknown operand.Unknown = true
is_unknown _ = false

-- whether an operand has a value that a Variant can hold
abbrev pub is_value : Operand → Bool
is_value operand.Boolean = true
is_value (operand.Number k) = true
is_value operand.Text = true
is_value operand.Variant = true
is_value _ = false

-- whether an operand is an object or Nothing
abbrev pub is_reference : Operand → Bool
is_reference operand.Object = true
is_reference operand.Nothing = true
is_reference _ = false
