-- What the code's own choices mean in the definitions.
use Rattle.std.specs.Prelude.{Bool, true, false, cond, ◌&&◌, ℤ, int_div, int_rem, Option, Some, None}
use Rattle.std.specs.declared.cmp.Ordering.{Ordering}
use Rattle.std.specs.Ordering.{is_eq, is_ne, is_lt, is_gt, is_le, is_ge}
use Rattle.vb_tree.specs.declared.value.Value6.{Value6}
use Rattle.vb_tree.specs.declared.value.Value6.TheVariants as v
use Rattle.vb6_meaning.specs.declared.answer.Making.{Making}
use Rattle.vb6_meaning.specs.declared.answer.Making.TheVariants.{Checked, Promoted}
use Rattle.vb6_meaning.specs.declared.arithmetic.Division.{Division}
use Rattle.vb6_meaning.specs.declared.arithmetic.Division.TheVariants.{Quotient, Remainder}
use Rattle.vb6_meaning.specs.declared.bits.BitRule.{BitRule}
use Rattle.vb6_meaning.specs.declared.bits.BitRule.TheVariants as rules
use Rattle.vb6_meaning.specs.declared.comparisons.Comparison.{Comparison}
use Rattle.vb6_meaning.specs.declared.comparisons.Comparison.TheVariants as comparisons
use Rattle.vb6_meaning.specs.declared.number.Number.{Number}
use Rattle.vb6_meaning.specs.declared.number.NumberKind.{NumberKind}
use Rattle.vb6_meaning.specs.Answers.{Answer, gives, outside, then_answer}
use Rattle.vb6_meaning.specs.Bits.{bitwise}
use Rattle.vb6_meaning.specs.Kinds.{is_byte, value, checked, checked_value, promoted}
use Rattle.vb6_meaning.specs.Numbers.{of_kind, amount_in}
use Rattle.vb6_meaning.specs.Values.{common_whole, divided, both, either, one_alone, alike, implies}

abbrev pub boolean_of : Value6 → Option Bool
boolean_of (v.Boolean b) = Some b
boolean_of w = None

abbrev pub made_by : Making → NumberKind → ℤ → Answer Value6
made_by Checked = checked_value
made_by Promoted = promoted

-- a number of the second kind as one of the first
abbrev pub from_kind : NumberKind → NumberKind → ℤ → Answer Value6
from_kind k from z = checked_value k (amount_in k (of_kind from z))

abbrev pub division_by : Division → ℤ → ℤ → ℤ
division_by Quotient = int_div
division_by Remainder = int_rem

-- a division whose first number is converted already
abbrev pub divided_by : Division → NumberKind → ℤ → Number → Answer Value6
divided_by rule k p y = then_answer (checked k (amount_in k y)) (divided (division_by rule) k p)

abbrev pub division : Division → Number → Number → Answer Value6
division rule x y = let k = common_whole x y in then_answer (checked k (amount_in k x)) (λ p. divided_by rule k p y)

abbrev pub bit_rule : BitRule → Bool → Bool → Bool
bit_rule rules.Both = both
bit_rule rules.Either = either
bit_rule rules.OneAlone = one_alone
bit_rule rules.Alike = alike
bit_rule rules.Implies = implies

abbrev pub sets_sign : BitRule → Bool
sets_sign rules.Both = false
sets_sign rules.Either = false
sets_sign rules.OneAlone = false
sets_sign rules.Alike = true
sets_sign rules.Implies = true

-- a rule on the bits of a number that is converted already and of one that isn't yet
abbrev pub bits_with : BitRule → NumberKind → ℤ → Number → Answer Value6
bits_with rule k p y = then_answer (checked k (amount_in k y)) (λ q. gives (value k (bitwise (bit_rule rule) p q)))

abbrev pub bits_in : BitRule → NumberKind → Number → Number → Answer Value6
bits_in rule k x y = then_answer (checked k (amount_in k x)) (λ p. bits_with rule k p y)

abbrev pub bits_row : BitRule → Number → Number → Answer Value6
bits_row rule x y = let k = common_whole x y in cond (sets_sign rule && is_byte k) outside (bits_in rule k x y)

abbrev pub test_of : Comparison → Ordering → Bool
test_of comparisons.Equal = is_eq
test_of comparisons.NotEqual = is_ne
test_of comparisons.Less = is_lt
test_of comparisons.Greater = is_gt
test_of comparisons.LessEqual = is_le
test_of comparisons.GreaterEqual = is_ge
