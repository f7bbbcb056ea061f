-- What is written for a row over operands, and which rows go from the left.
use Rattle.std.specs.Prelude.{◌≡◌, ℕ, Bool, true, false, ◌&&◌, ◌||◌, [], codes, List, Option, Some, None}
use Rattle.vb_tree.specs.BoundTree as types
use Rattle.vb_tree.specs.BoundTree.{Ty}
use Rattle.vb_tree.specs.declared.expression.BinOp.{BinOp}
use Rattle.vb_tree.specs.declared.value.Value6.{Value6}
use Rattle.bound_tree.specs.Tree.{Expr}
use Rattle.net_tree.specs.declared.expression.CastWord.{CastWord}
use Rattle.net_tree.specs.declared.expression.CastWord.TheVariants as word
use Rattle.net_tree.specs.declared.expression.NetUn.{NetUn}
use Rattle.net_tree.specs.declared.expression.NetUn.TheVariants as un
use Rattle.net_tree.specs.Tree.{Exp}
use Rattle.net_tree.specs.Tree as net
use Rattle.net_tree.specs.Types as ty
use Rattle.net_meaning.specs.declared.value.ValueN.{ValueN}
use Rattle.net_meaning.specs.Conversions.{coerce_net}
use Rattle.net_meaning.specs.ValueMatch.{Matches}
use Rattle.net_meaning.specs.WrittenRows.{Row, operand_a, operand_b, no_text, cast, call, Call, cur, cur_text, fix, var_as, var_str, Written}
use Rattle.net_meaning.specs.WrittenRows as row
use Rattle.written_trees.specs.Literals.{number, literal_as}
use Rattle.written_trees.specs.Conversions.{one, two, support_call}
use Rattle.written_trees.specs.Operators.{is_product_in_currency}
use Rattle.net_run.specs.Making.{Jobs}
use Rattle.net_run.specs.Names.{Scope}
use Rattle.row_laws.specs.Follows.{Any, RowOfOne}

-- ---- what is written for a row

-- what is written for an operand, and for a whole literal also what is written for it as a Decimal
pub record Operand : Type 0 where
  pub exp : Exp
  pub decimal : Option Exp

abbrev pub plain : Exp → Operand
plain e = record { exp = e; decimal = None }

-- an operand of an expression that is written so
abbrev pub operand_of : Expr → Exp → Operand
operand_of e a = record { exp = a; decimal = literal_as types.currency e }

abbrev pub decimal_or : CastWord → Exp → Exp → Exp
decimal_or word.CDec l e = l
decimal_or _ l e = e

abbrev pub cast_exp : CastWord → Option Exp → Exp → Exp
cast_exp c None e = net.cast c e
cast_exp c (Some l) e = decimal_or c l (net.cast c e)

abbrev pub decimal_for : Row → Operand → Operand → Option Exp
decimal_for operand_a a b = a.decimal
decimal_for operand_b a b = b.decimal
decimal_for _ a b = None

-- the support function that converts a Variant to a type
abbrev pub var_name : Ty → List ℕ
var_name types.boolean = codes "VarBool"
var_name types.byte = codes "VarByte"
var_name types.integer = codes "VarShort"
var_name types.long = codes "VarInt"
var_name types.currency = codes "VarCur"
var_name _ = []

abbrev pub call_exp : Call → Exp → Exp
call_exp cur e = support_call (codes "Cur") (one e)
call_exp cur_text e = support_call (codes "CurText") (one e)
call_exp (fix units) e = support_call (codes "Fix") (two e (number units))
call_exp (var_as t) e = support_call (var_name t) (one e)
call_exp var_str e = support_call (codes "VarStr") (one e)

abbrev pub row_exp : Row → Operand → Operand → Exp
row_exp operand_a a b = a.exp
row_exp operand_b a b = b.exp
row_exp no_text a b = net.lit (net.str [])
row_exp (cast c r) a b = cast_exp c (decimal_for r a b) (row_exp r a b)
row_exp (row.unary u r) a b = net.unary u (row_exp r a b)
row_exp (row.binary o r s) a b = net.binary o (row_exp r a b) (row_exp s a b)
row_exp (call f r) a b = call_exp f (row_exp r a b)

-- ---- rows that go from the left

-- the types to which a support function converts
abbrev pub is_converted : Ty → Bool
is_converted types.boolean = true
is_converted types.byte = true
is_converted types.integer = true
is_converted types.long = true
is_converted types.currency = true
is_converted _ = false

abbrev pub is_call : Call → Bool
is_call (var_as t) = is_converted t
is_call cur = true
is_call cur_text = true
is_call (fix units) = true
is_call var_str = true

-- `""` stands before an operand alone
abbrev pub is_no_text : Row → Bool
is_no_text no_text = true
is_no_text _ = false

-- a row over the first operand alone
abbrev pub is_over_a : Row → Bool
is_over_a operand_a = true
is_over_a operand_b = false
is_over_a no_text = false
is_over_a (cast c r) = is_over_a r
is_over_a (row.unary u r) = is_over_a r
is_over_a (row.binary o r s) = is_no_text r && is_over_a s
is_over_a (call f r) = is_call f && is_over_a r

-- a row over the second operand alone
abbrev pub is_over_b : Row → Bool
is_over_b operand_a = false
is_over_b operand_b = true
is_over_b no_text = false
is_over_b (cast c r) = is_over_b r
is_over_b (row.unary u r) = is_over_b r
is_over_b (row.binary o r s) = false
is_over_b (call f r) = is_call f && is_over_b r

abbrev pub is_operand_a : Row → Bool
is_operand_a operand_a = true
is_operand_a _ = false

-- a whole number or a Boolean, whose conversion to a Decimal can't fail
abbrev pub goes_to_decimal : Ty → Bool
goes_to_decimal types.boolean = true
goes_to_decimal types.byte = true
goes_to_decimal types.integer = true
goes_to_decimal types.long = true
goes_to_decimal _ = false

-- a value of which Not can't fail
abbrev pub has_not : Ty → Bool
has_not types.boolean = true
has_not types.integer = true
has_not types.long = true
has_not _ = false

abbrev pub is_to_decimal : CastWord → Bool
is_to_decimal word.CDec = true
is_to_decimal _ = false

abbrev pub is_not : NetUn → Bool
is_not un.Not = true
is_not un.Neg = false

-- what may stand before the second operand: the first one of this type, or what can't fail on it
abbrev pub is_safe : Ty → Row → Bool
is_safe s operand_a = true
is_safe s (cast c r) = is_to_decimal c && goes_to_decimal s && is_operand_a r
is_safe s (row.unary u r) = is_not u && has_not s && is_operand_a r
is_safe s _ = false

-- a row over both operands
abbrev pub is_over_both : Ty → Row → Bool
is_over_both s operand_a = false
is_over_both s operand_b = false
is_over_both s no_text = false
is_over_both s (cast c r) = is_over_both s r
is_over_both s (row.unary u r) = is_over_both s r
is_over_both s (row.binary o r t) = is_safe s r && is_over_b t
is_over_both s (call f r) = is_call f && is_over_both s r

-- ---- rows whose operands have the types of the row

abbrev pub is_check : Call → Bool
is_check cur = true
is_check _ = false

-- no operand is converted
abbrev pub is_direct : Row → Bool
is_direct operand_a = true
is_direct operand_b = true
is_direct no_text = true
is_direct (cast c r) = false
is_direct (row.unary u r) = is_direct r
is_direct (row.binary o r s) = is_direct r && is_direct s
is_direct (call f r) = is_check f && is_direct r

-- but for the factors of a product in Currency
abbrev pub is_ready : BinOp → Written → Bool
is_ready o w = is_product_in_currency o w.ty || is_direct w.row

-- ---- premises

-- a value of a type
abbrev pub IsOf : (are_same : ℕ → ℕ → Bool) → Ty → ValueN → Type 0
IsOf are_same s x = (v : Value6) × Matches are_same s v x

-- where an operand is a literal, what is written for it as a Decimal gives what its conversion does
abbrev pub Fits : Scope → Jobs → Operand → Type 0
Fits S oracle a = (l : Exp) → a.decimal ≡ Some l → RowOfOne S oracle Any l a.exp (λ x. coerce_net x ty.decimal)
