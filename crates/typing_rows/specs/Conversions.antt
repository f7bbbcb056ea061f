-- How an expression of a type goes to what has another type.
use Rattle.std.specs.Prelude.{ℕ, nat_eq, Bool, true, false, cond}
use Rattle.vb_tree.specs.BoundTree.{Ty, boolean, byte, integer, long, currency, str, fixed, user, class, object, variant, array, nothing, unknown}
use Rattle.typing_rows.specs.declared.conversions.Conversion.{Conversion}
use Rattle.typing_rows.specs.declared.conversions.Conversion.TheVariants.{Stands, To, ByDefault, Breaks}
use Rattle.typing_rows.specs.declared.operands.Operand.{Operand}
use Rattle.typing_rows.specs.declared.operands.Operand.TheVariants as operand
use Rattle.typing_rows.specs.declared.simple_types.SimpleType.{SimpleType}
use Rattle.typing_rows.specs.declared.simple_types.SimpleType.TheVariants as simple
use Rattle.typing_rows.specs.Types.{is_type, operand_of}

-- ---- to each type

-- a Boolean, a number or a Variant to another type of these; no text is read as a number
abbrev pub counted : SimpleType → Operand → Conversion
counted t operand.Boolean = To t
counted t (operand.Number k) = To t
counted t operand.Text = Breaks 21
counted t operand.Variant = To t
counted t operand.Object = ByDefault
counted t operand.Nothing = Breaks 21
counted t operand.Other = Breaks 21
counted t operand.Unknown = Stands

-- the same, and a text too
abbrev pub valued : SimpleType → Operand → Conversion
valued t operand.Text = To t
valued t x = counted t x

abbrev pub to_number : SimpleType → Ty → Conversion
to_number t s = cond (is_type t s) Stands (counted t (operand_of s))

abbrev pub to_value : SimpleType → Ty → Conversion
to_value t s = cond (is_type t s) Stands (valued t (operand_of s))

abbrev pub is_array : Ty → Bool
is_array (array element rank) = true
is_array _ = false

-- no Variant holds an array
abbrev pub to_variant : Ty → Conversion
to_variant s = cond (is_array s) (Breaks 5) (to_value simple.Variant s)

-- a class goes to Object, and Nothing to both
abbrev pub to_object : Ty → Conversion
to_object object = Stands
to_object (class k) = To simple.Object
to_object nothing = To simple.Object
to_object unknown = Stands
to_object _ = Breaks 21

abbrev pub to_class : ℕ → Ty → Conversion
to_class k (class l) = cond (nat_eq k l) Stands (Breaks 21)
to_class k nothing = To (simple.Class k)
to_class k unknown = Stands
to_class k _ = Breaks 21

abbrev pub to_user : ℕ → Ty → Conversion
to_user k (user l) = cond (nat_eq k l) Stands (Breaks 21)
to_user k (class l) = ByDefault
to_user k object = ByDefault
to_user k unknown = Stands
to_user k _ = Breaks 21

abbrev pub is_user : ℕ → Ty → Bool
is_user k (user l) = nat_eq k l
is_user k _ = false

abbrev pub is_nothing : Ty → Bool
is_nothing nothing = true
is_nothing _ = false

abbrev pub is_without_type : Ty → Bool
is_without_type unknown = true
is_without_type _ = false

-- two array types are the same where their element types are, whatever their ranks
abbrev pub is_same_type : Ty → Ty → Bool
is_same_type boolean t = is_type simple.Boolean t
is_same_type byte t = is_type simple.Byte t
is_same_type integer t = is_type simple.Integer t
is_same_type long t = is_type simple.Long t
is_same_type currency t = is_type simple.Currency t
is_same_type str t = is_type simple.Str t
is_same_type (fixed units) t = is_type (simple.Fixed units) t
is_same_type (user k) t = is_user k t
is_same_type (class k) t = is_type (simple.Class k) t
is_same_type object t = is_type simple.Object t
is_same_type variant t = is_type simple.Variant t
is_same_type (array e rank) (array f other) = is_same_type e f
is_same_type (array e rank) _ = false
is_same_type nothing t = is_nothing t
is_same_type unknown t = is_without_type t

-- no default member is an array
abbrev pub to_array : (element : Ty) → Ty → Conversion
to_array e (array f rank) = cond (is_same_type e f) Stands (Breaks 21)
to_array e unknown = Stands
to_array e _ = Breaks 21

abbrev pub to_nothing : Ty → Conversion
to_nothing nothing = Stands
to_nothing unknown = Stands
to_nothing _ = Breaks 21

-- What becomes of an expression of a type where one of another type is wanted, as for an argument. An expression without
-- a type stays as it is, and so does each where none is wanted.
abbrev pub converts : (from to : Ty) → Conversion
converts s boolean = to_number simple.Boolean s
converts s byte = to_number simple.Byte s
converts s integer = to_number simple.Integer s
converts s long = to_number simple.Long s
converts s currency = to_number simple.Currency s
converts s str = to_value simple.Str s
converts s (fixed units) = to_value (simple.Fixed units) s
converts s (user k) = to_user k s
converts s (class k) = to_class k s
converts s object = to_object s
converts s variant = to_variant s
converts s (array element rank) = to_array element s
converts s nothing = to_nothing s
converts s unknown = Stands

-- ---- where expressions stand

-- the type of the value that a target takes: a String of a fixed length takes any
abbrev pub taken_type : Ty → Ty
taken_type (fixed units) = str
taken_type t = t

-- the value of an assignment; a target that is an object gives way to its default member first
abbrev pub assigned : (value target : Ty) → Conversion
assigned s t = converts s (taken_type t)

-- an object is wanted, and none can be there
abbrev pub without_object : Ty → Conversion
without_object unknown = Stands
without_object _ = Breaks 21

-- the value of a Set; no Variant takes an object
abbrev pub set_to : (value target : Ty) → Conversion
set_to s (class k) = to_class k s
set_to s object = to_object s
set_to s variant = Breaks 5
set_to s unknown = Stands
set_to s _ = without_object s

-- a condition of If, ElseIf, Do, Loop and While
abbrev pub condition : Ty → Conversion
condition s = converts s boolean

-- an index of an element, or a bound of a ReDim
abbrev pub index : Ty → Conversion
index s = converts s long

-- the number that Err.Raise raises
abbrev pub error_number : Ty → Conversion
error_number s = converts s long

-- whether a For counts in a variable of this type
abbrev pub is_counter : Ty → Bool
is_counter integer = true
is_counter long = true
is_counter _ = false

-- the start, the limit and the step of a For
abbrev pub limit : (value counter : Ty) → Conversion
limit s counter = converts s counter

abbrev pub printed_operand : Operand → Conversion
printed_operand operand.Boolean = Stands
printed_operand (operand.Number k) = Stands
printed_operand operand.Text = Stands
printed_operand operand.Variant = Stands
printed_operand operand.Object = ByDefault
printed_operand operand.Nothing = Breaks 21
printed_operand operand.Other = Breaks 21
printed_operand operand.Unknown = Stands

-- an item of Debug.Print, whose text is made when it is printed
abbrev pub printed : Ty → Conversion
printed s = printed_operand (operand_of s)
