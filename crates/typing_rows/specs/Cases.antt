-- The one type to which Select Case converts its expression and the items of its Cases.
use Rattle.std.specs.Prelude.{cond, List, [], ◌∷◌}
use Rattle.vb_tree.specs.BoundTree.{Ty, boolean, str}
use Rattle.vb6_meaning.specs.declared.number.NumberKind.TheVariants as kinds
use Rattle.vb6_meaning.specs.Kinds.{wider}
use Rattle.typing_rows.specs.declared.cases.CaseType.{CaseType}
use Rattle.typing_rows.specs.declared.cases.CaseType.TheVariants.{Open, Boolean, Number, Text, Mixed}
use Rattle.typing_rows.specs.declared.conversions.Conversion.{Conversion}
use Rattle.typing_rows.specs.declared.conversions.Conversion.TheVariants.{Stands, Breaks}
use Rattle.typing_rows.specs.declared.operands.Operand.{Operand}
use Rattle.typing_rows.specs.declared.operands.Operand.TheVariants as operand
use Rattle.typing_rows.specs.Types.{ty_of, type_of_kind, operand_of, is_unknown}
use Rattle.typing_rows.specs.Conversions.{converts}

-- the common type of one expression; one without a type leaves it open
abbrev pub case_of : Operand → CaseType
case_of operand.Boolean = Boolean
case_of (operand.Number k) = Number k
case_of operand.Text = Text
case_of operand.Variant = Mixed
case_of operand.Object = Mixed
case_of operand.Nothing = Mixed
case_of operand.Other = Mixed
case_of operand.Unknown = Open

-- the common type of the expressions of two common types; a Boolean beside a number counts as an Integer
abbrev pub common : CaseType → CaseType → CaseType
common Open c = c
common c Open = c
common Boolean Boolean = Boolean
common Boolean (Number l) = Number (wider kinds.Integer l)
common (Number k) Boolean = Number (wider k kinds.Integer)
common (Number k) (Number l) = Number (wider k l)
common Text Text = Text
common c d = Mixed

-- the common type of what is known so far and of expressions of some types
abbrev pub common_with : CaseType → List Ty → CaseType
common_with c [] = c
common_with c (s ∷ rest) = common_with (common c (case_of (operand_of s))) rest

-- the common type of the expression and of all items, whose objects have given way to their default members
abbrev pub common_type : List Ty → CaseType
common_type types = common_with Open types

-- What becomes of an expression under a common type. Where there is none, each expression that has a type breaks a rule.
abbrev pub case_converts : CaseType → Ty → Conversion
case_converts Open s = Stands
case_converts Boolean s = converts s boolean
case_converts (Number k) s = converts s (ty_of (type_of_kind k))
case_converts Text s = converts s str
case_converts Mixed s = cond (is_unknown (operand_of s)) Stands (Breaks 21)
