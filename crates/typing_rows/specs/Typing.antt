-- What operators make of operands of two types: the type that the operands are converted to, and the type of the result.
use Rattle.std.specs.Prelude.{ℕ, cond, ◌&&◌, ◌||◌, Option, Some, None}
use Rattle.vb_tree.specs.declared.expression.BinOp.{BinOp}
use Rattle.vb_tree.specs.declared.expression.BinOp.TheVariants as b
use Rattle.vb_tree.specs.declared.expression.UnOp.{UnOp}
use Rattle.vb_tree.specs.declared.expression.UnOp.TheVariants as u
use Rattle.vb_tree.specs.BoundTree.{Ty}
use Rattle.vb6_meaning.specs.declared.number.NumberKind.{NumberKind}
use Rattle.vb6_meaning.specs.declared.number.NumberKind.TheVariants as kinds
use Rattle.vb6_meaning.specs.Kinds.{wider, whole, is_byte}
use Rattle.vb6_meaning.specs.Values.{are_currencies}
use Rattle.typing_rows.specs.declared.operands.Operand.{Operand}
use Rattle.typing_rows.specs.declared.operands.Operand.TheVariants as operand
use Rattle.typing_rows.specs.declared.operators.Row.{Row}
use Rattle.typing_rows.specs.declared.operators.Row.TheVariants.{Both, Own, ByDefault, OverUnknown, NoForm, Untranslated}
use Rattle.typing_rows.specs.declared.simple_types.SimpleType.{SimpleType}
use Rattle.typing_rows.specs.declared.simple_types.SimpleType.TheVariants as simple
use Rattle.typing_rows.specs.Types.{type_of_kind, operand_of, kind_of, is_boolean, is_text, is_variant, is_object, is_unknown, is_value, is_reference}

-- ---- two numbers; a Boolean counts as an Integer

abbrev pub on_kinds : (NumberKind → NumberKind → Row) → Option NumberKind → Option NumberKind → Row
on_kinds f None l = NoForm
on_kinds f (Some k) None = NoForm
on_kinds f (Some k) (Some l) = f k l

abbrev pub on_numbers : (NumberKind → NumberKind → Row) → Operand → Operand → Row
on_numbers f x y = on_kinds f (kind_of x) (kind_of y)

-- the operands and the result are of one kind
abbrev pub alike : NumberKind → Row
alike k = Both (type_of_kind k) (type_of_kind k)

abbrev pub sum : NumberKind → NumberKind → Row
sum k l = alike (wider k l)

-- whole numbers alone: a Currency counts as a Long
abbrev pub quotient : NumberKind → NumberKind → Row
quotient k l = alike (whole (wider k l))

-- the same where a Byte has none
abbrev pub signed : NumberKind → NumberKind → Row
signed k l = cond (is_byte (whole (wider k l))) NoForm (quotient k l)

-- a factor beside a Currency stays as it is, so that the product is exact
abbrev pub factors : (common : NumberKind) → Row
factors kinds.Byte = alike kinds.Byte
factors kinds.Integer = alike kinds.Integer
factors kinds.Long = alike kinds.Long
factors kinds.Currency = Own simple.Currency

-- two Currencies have no product
abbrev pub product : NumberKind → NumberKind → Row
product k l = cond (are_currencies k l) NoForm (factors (wider k l))

abbrev pub order : NumberKind → NumberKind → Row
order k l = Both (type_of_kind (wider k l)) simple.Boolean

-- ---- two operands of declared types

abbrev pub added : Operand → Operand → Row
added x y = cond (is_text x && is_text y) (Both simple.Str simple.Str) (on_numbers sum x y)

-- two Strings, two Booleans, or two numbers
abbrev pub compared : Operand → Operand → Row
compared x y =
    cond (is_text x && is_text y) (Both simple.Str simple.Boolean)
    (cond (is_boolean x && is_boolean y) (Both simple.Boolean simple.Boolean) (on_numbers order x y))

-- two Booleans, or two numbers, bit by bit
abbrev pub logical : (NumberKind → NumberKind → Row) → Operand → Operand → Row
logical f x y = cond (is_boolean x && is_boolean y) (Both simple.Boolean simple.Boolean) (on_numbers f x y)

-- ---- any two operands

-- beside a Variant the other operand is converted to Variant too
abbrev pub or_variant : (gives : SimpleType) → (declared : Row) → Operand → Operand → Row
or_variant gives declared x y = cond (is_variant x || is_variant y) (cond (is_value x && is_value y) (Both simple.Variant gives) NoForm) declared

-- `&` takes the texts of Variants too
abbrev pub joined : Operand → Operand → Row
joined x y = cond (is_value x && is_value y) (Both simple.Str simple.Str) NoForm

-- Of an expression over one without a type nothing is said; an object gives way to its default member first.
abbrev pub over : Row → Operand → Operand → Row
over row x y = cond (is_unknown x || is_unknown y) OverUnknown (cond (is_object x || is_object y) ByDefault row)

abbrev pub arithmetic : (NumberKind → NumberKind → Row) → Operand → Operand → Row
arithmetic f x y = over (or_variant simple.Variant (on_numbers f x y) x y) x y

abbrev pub sum_or_text : Operand → Operand → Row
sum_or_text x y = over (or_variant simple.Variant (added x y) x y) x y

abbrev pub comparison : Operand → Operand → Row
comparison x y = over (or_variant simple.Boolean (compared x y) x y) x y

-- Eqv and Imp on Variants are made of Xor, Or and Not, which have rows there for all values
abbrev pub bits : (NumberKind → NumberKind → Row) → Operand → Operand → Row
bits f x y = over (or_variant simple.Variant (logical f x y) x y) x y

-- two objects, or Nothing, as they stand
abbrev pub same_object : Operand → Operand → Row
same_object x y = cond (is_unknown x || is_unknown y) OverUnknown (cond (is_reference x && is_reference y) (Own simple.Boolean) NoForm)

abbrev pub operand_row : BinOp → Operand → Operand → Row
operand_row b.Pow x y = Untranslated
operand_row b.Mul x y = arithmetic product x y
operand_row b.Div x y = Untranslated
operand_row b.IntDiv x y = arithmetic quotient x y
operand_row b.Mod x y = arithmetic quotient x y
operand_row b.Add x y = sum_or_text x y
operand_row b.Sub x y = arithmetic sum x y
operand_row b.Concat x y = over (joined x y) x y
operand_row b.Equal x y = comparison x y
operand_row b.NotEqual x y = comparison x y
operand_row b.Less x y = comparison x y
operand_row b.Greater x y = comparison x y
operand_row b.LessEqual x y = comparison x y
operand_row b.GreaterEqual x y = comparison x y
operand_row b.Is x y = same_object x y
operand_row b.Like x y = Untranslated
operand_row b.And x y = bits quotient x y
operand_row b.Or x y = bits quotient x y
operand_row b.Xor x y = bits quotient x y
operand_row b.Eqv x y = bits signed x y
operand_row b.Imp x y = bits signed x y

abbrev pub binary_row : BinOp → Ty → Ty → Row
binary_row op s t = operand_row op (operand_of s) (operand_of t)

-- ---- one operand

-- a Byte has neither minus nor Not
abbrev pub negated : NumberKind → Row
negated k = cond (is_byte k) NoForm (alike k)

abbrev pub turned : NumberKind → Row
turned k = cond (is_byte k) NoForm (alike (whole k))

abbrev pub minus : Operand → Row
minus operand.Boolean = alike kinds.Integer
minus (operand.Number k) = negated k
minus operand.Text = NoForm
minus operand.Variant = Both simple.Variant simple.Variant
minus operand.Object = ByDefault
minus operand.Nothing = NoForm
minus operand.Other = NoForm
minus operand.Unknown = OverUnknown

abbrev pub complement : Operand → Row
complement operand.Boolean = Both simple.Boolean simple.Boolean
complement (operand.Number k) = turned k
complement operand.Text = NoForm
complement operand.Variant = Both simple.Variant simple.Variant
complement operand.Object = ByDefault
complement operand.Nothing = NoForm
complement operand.Other = NoForm
complement operand.Unknown = OverUnknown

abbrev pub unary_row : UnOp → Ty → Row
unary_row u.Neg s = minus (operand_of s)
unary_row u.Not s = complement (operand_of s)

-- ---- the rules that rows break

abbrev pub rule_of_row : Row → Option ℕ
rule_of_row NoForm = Some 22
rule_of_row Untranslated = Some 2
rule_of_row _ = None
