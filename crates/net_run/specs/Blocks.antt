-- What the heads of blocks test and keep: Case items, and the counting of a For.
use Rattle.std.specs.Prelude.{ℤ, pos, negsuc, int_lt, Bool, true, false, not, List, [], ◌∷◌, Option, Some, None}
use Rattle.vb6_meaning.specs.Answers.{Answer, then_answer}
use Rattle.vb6_meaning.specs.Answers as value
use Rattle.net_tree.specs.declared.expression.NetBin.{NetBin}
use Rattle.net_tree.specs.declared.expression.NetBin.TheVariants as op
use Rattle.net_tree.specs.declared.expression.OpN.TheVariants.{Bin}
use Rattle.net_tree.specs.Tree.{Exp, CaseItem, case_value, case_range, case_is}
use Rattle.net_meaning.specs.declared.value.ValueN.{ValueN}
use Rattle.net_meaning.specs.declared.value.ValueN.TheVariants as n
use Rattle.net_meaning.specs.Operators.{operate_net}
use Rattle.run_base.specs.Outcomes.{gives, then, answered}
use Rattle.net_run.specs.Values.{Value, unknown, single, fields}
use Rattle.net_run.specs.Store.{Does}
use Rattle.net_run.specs.Names.{Scope}
use Rattle.net_run.specs.Making.{Jobs}
use Rattle.net_run.specs.Expressions.{value_of}

-- ---- conditions

-- a condition is a Boolean
abbrev pub boolean_of : Value → Answer Bool
boolean_of (single (n.Boolean b)) = value.gives b
boolean_of (single x) = value.outside
boolean_of unknown = value.outside
boolean_of (fields vs) = value.outside

abbrev pub condition : Scope → Jobs → Exp → Does Bool
condition S oracle e w = then (value_of S oracle e w) (λ v w. answered (boolean_of v) w)

-- ---- Case

abbrev pub operated : NetBin → Value → Value → Answer ValueN
operated o (single x) (single y) = operate_net (Bin o) x y
operated o (single x) unknown = value.outside
operated o (single x) (fields vs) = value.outside
operated o unknown v = value.outside
operated o (fields vs) v = value.outside

abbrev pub compared : NetBin → Value → Value → Answer Bool
compared o u v = then_answer (operated o u v) (λ x. boolean_of (single x))

abbrev pub only_if : Bool → Does Bool → Does Bool
only_if true go w = go w
only_if false go w = gives [] false w

abbrev pub unless : Bool → Does Bool → Does Bool
unless true go w = gives [] true w
unless false go w = go w

-- an upper bound is evaluated where the lower one fits
abbrev pub item_fits : Scope → Jobs → (kept : Value) → CaseItem → Does Bool
item_fits S oracle x (case_value e) w = then (value_of S oracle e w) (λ v w. answered (compared op.Equal x v) w)
item_fits S oracle x (case_range e f) w =
    then (value_of S oracle e w) (λ u w.
    then (answered (compared op.GreaterEqual x u) w) (λ is_above w.
    only_if is_above (λ w. then (value_of S oracle f w) (λ v w. answered (compared op.LessEqual x v) w)) w))
item_fits S oracle x (case_is o e) w = then (value_of S oracle e w) (λ v w. answered (compared o x v) w)

-- the items stop at the first that fits
abbrev pub any_fits : Scope → Jobs → (kept : Value) → List CaseItem → Does Bool
any_fits S oracle x [] w = gives [] false w
any_fits S oracle x (i ∷ items) w = then (item_fits S oracle x i w) (λ fits w. unless fits (any_fits S oracle x items) w)

-- ---- For

-- a counter and its limits are whole numbers
abbrev pub whole_of : Value → Answer ℤ
whole_of (single (n.Byte m)) = value.gives (pos m)
whole_of (single (n.Short z)) = value.gives z
whole_of (single (n.Integer z)) = value.gives z
whole_of (single (n.Long z)) = value.gives z
whole_of (single x) = value.outside
whole_of unknown = value.outside
whole_of (fields vs) = value.outside

-- the step that isn't written is 1 of the counter's type
abbrev pub one_as : Value → Answer Value
one_as (single (n.Byte m)) = value.gives (single (n.Byte 1))
one_as (single (n.Short z)) = value.gives (single (n.Short (pos 1)))
one_as (single (n.Integer z)) = value.gives (single (n.Integer (pos 1)))
one_as (single (n.Long z)) = value.gives (single (n.Long (pos 1)))
one_as (single x) = value.outside
one_as unknown = value.outside
one_as (fields vs) = value.outside

abbrev pub step_value : Scope → Jobs → (start : Value) → Option Exp → Does Value
step_value S oracle x None w = answered (one_as x) w
step_value S oracle x (Some e) w = value_of S oracle e w

-- whether a counter hasn't passed its limit, by the sign of the step
abbrev pub is_within : (counter limit step : ℤ) → Bool
is_within x y (pos s) = not (int_lt y x)
is_within x y (negsuc s) = not (int_lt x y)

abbrev pub counts_on : (counter limit step : Value) → Answer Bool
counts_on x y s = then_answer (whole_of x) (λ i. then_answer (whole_of y) (λ j. then_answer (whole_of s) (λ k. value.gives (is_within i j k))))

-- the counter behind one round: 6 where it leaves its type
abbrev pub counted : (counter step : Value) → Answer Value
counted x s = then_answer (operated op.Add x s) (λ y. value.gives (single y))
