-- The values of expressions that must be constant, and the rules that they break where they have none.
use Rattle.std.specs.Prelude.{ℕ, ℤ, Bool, false, cond, is_some, Option, Some, None}
use Rattle.vb_tree.specs.BoundTree.{Ty, currency}
use Rattle.vb_tree.specs.declared.expression.UnOp.TheVariants as u
use Rattle.vb_tree.specs.declared.token.Literal6.TheVariants as literal
use Rattle.vb_tree.specs.declared.value.Value6.{Value6}
use Rattle.vb_tree.specs.declared.value.Value6.TheVariants as v
use Rattle.vb_tree.specs.Tree.{Exp, lit, paren, unary}
use Rattle.vb6_meaning.specs.Answers.{Answer, gives, raises, outside}
use Rattle.vb6_meaning.specs.Values.{coerce}
use Rattle.bound_tree.specs.declared.expression.Origin.TheVariants.{Literal}
use Rattle.bound_tree.specs.declared.rule_set.RuleSet.{RuleSet}
use Rattle.bound_tree.specs.RuleSets.{none, with_rule, with_if}
use Rattle.bound_tree.specs.Tree.{Expr, typed, constant}
use Rattle.bound_tree.specs.Tree as bound
use Rattle.bound_facts.specs.Folded.{folded}
use Rattle.bound_facts.specs.Node.{type_at}
use Rattle.typing_rows.specs.declared.conversions.Conversion.{Conversion}
use Rattle.typing_rows.specs.declared.conversions.Conversion.TheVariants.{Stands, To, ByDefault, Breaks}
use Rattle.typing_rows.specs.Conversions.{converts}
use Rattle.typing_rows.specs.Types.{ty_of}
use Rattle.expression_words.specs.Flaws.{Typed, known, unknown}
use Rattle.expression_words.specs.Meanings.{Scope}
use Rattle.expression_words.specs.Operators.{is_too_long}
use Rattle.bound_exprs.specs.Resolved.{resolved}

-- a value of a type, or the rules that are broken
pub data Outcome : Type 0 where
  valued : Ty → Value6 → Outcome
  broken : RuleSet → Outcome

abbrev pub breaks : ℕ → Outcome
breaks rule = broken (with_rule none rule)

-- ---- numbers with decimals

abbrev pub plain_number : Exp → Option ℤ
plain_number (lit (literal.Plain z)) = Some z
plain_number (paren e) = plain_number e
plain_number _ = None

abbrev pub currency_of : ℤ → Expr
currency_of z = typed currency (constant (v.Cur z) Literal)

abbrev pub minus_of : Option ℤ → Option Expr
minus_of None = None
minus_of (Some z) = Some (typed currency (bound.unary u.Neg (currency_of z)))

-- a number with decimals, with one minus or none, as a Currency
abbrev pub currency_number : Exp → Option Expr
currency_number (lit (literal.Plain z)) = Some (currency_of z)
currency_number (paren e) = currency_number e
currency_number (unary u.Neg e) = minus_of (plain_number e)
currency_number _ = None

abbrev pub or_resolved : Scope → Exp → Option Expr → Typed
or_resolved S e None = resolved S e
or_resolved S e (Some x) = known x

-- the value of an assignment or a Const where a type is wanted
abbrev pub resolved_as : Scope → Exp → Ty → Typed
resolved_as S e currency = or_resolved S e (currency_number e)
resolved_as S e ty = resolved S e

-- ---- values

abbrev pub is_long_text : Value6 → Bool
is_long_text (v.Str text) = is_too_long text
is_long_text _ = false

-- a text that can't be written is no constant
abbrev pub written : Ty → Value6 → Outcome
written ty x = cond (is_long_text x) (breaks 25) (valued ty x)

abbrev pub coerced : Ty → Answer Value6 → Outcome
coerced ty (gives x) = written ty x
coerced ty (raises number) = breaks 25
coerced ty outside = breaks 25

abbrev pub by_conversion : Value6 → Ty → Conversion → Outcome
by_conversion x ty Stands = written ty x
by_conversion x ty (To t) = coerced (ty_of t) (coerce x (ty_of t))
by_conversion x ty ByDefault = breaks 6
by_conversion x ty (Breaks rule) = breaks rule

-- the value of a bound expression as one of a type, where one is wanted; it has none where it isn't constant
abbrev pub value_as : Option Ty → Ty → Option Value6 → Outcome
value_as wanted from None = breaks 25
value_as None from (Some x) = written from x
value_as (Some ty) from (Some x) = by_conversion x ty (converts from ty)

-- an expression without a type breaks a further rule where it uses a declaration without one
abbrev pub outcome_of : Option Ty → Typed → Outcome
outcome_of wanted (known e) = value_as wanted (type_at e) (folded e)
outcome_of wanted (unknown f) = broken (with_if f.rules 25 (is_some f.cause))

-- an expression that must be constant
abbrev pub constant_outcome : Scope → Option Ty → Exp → Outcome
constant_outcome S wanted e = outcome_of wanted (resolved S e)

abbrev pub resolved_for : Scope → Option Ty → Exp → Typed
resolved_for S None e = resolved S e
resolved_for S (Some ty) e = resolved_as S e ty

-- that of a Const, which can be a number with decimals
abbrev pub const_outcome : Scope → Option Ty → Exp → Outcome
const_outcome S wanted e = outcome_of wanted (resolved_for S wanted e)

-- the rules of an outcome
abbrev pub rules_of : Outcome → RuleSet
rules_of (valued ty x) = none
rules_of (broken rules) = rules
