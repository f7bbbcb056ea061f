-- What is computed behind the values of operands: an equation holds of computations, whatever memory they are from.
use Rattle.std.specs.Prelude.{◌≡◌, []}
use Rattle.vb6_meaning.specs.Answers.{Answer}
use Rattle.net_tree.specs.Tree.{Exp}
use Rattle.net_meaning.specs.declared.value.ValueN.{ValueN}
use Rattle.run_base.specs.Outcomes.{Outcome, gives, raises, spent, outside, then, answered}
use Rattle.net_run.specs.Values.{Value, unknown, single, fields}
use Rattle.net_run.specs.Store.{Memory, Does}
use Rattle.net_run.specs.Names.{Scope}
use Rattle.net_run.specs.Making.{Jobs}
use Rattle.net_run.specs.Expressions.{value_of}

abbrev pub single_value : ValueN → Does Value
single_value x w = gives [] (single x) w

-- the single value of an answer
abbrev pub answers : Answer ValueN → Does Value
answers a w = then (answered a w) single_value

-- a computation of a single value, as one of a value
abbrev pub singly : Outcome Memory ValueN → Outcome Memory Value
singly r = then r single_value

-- rows are of single values
abbrev pub on_value : (ValueN → Answer ValueN) → Value → Does Value
on_value row (single x) w = answers (row x) w
on_value row unknown w = outside []
on_value row (fields vs) w = outside []

abbrev pub on_values : (ValueN → ValueN → Answer ValueN) → (first second : Value) → Does Value
on_values row (single x) v w = on_value (row x) v w
on_values row unknown v w = outside []
on_values row (fields us) v w = outside []

abbrev pub on_three_values : (ValueN → ValueN → ValueN → Answer ValueN) → (first second third : Value) → Does Value
on_three_values row (single x) u v w = on_values (row x) u v w
on_three_values row unknown u v w = outside []
on_three_values row (fields us) u v w = outside []

-- `whole` is `first`, and then, behind a single value of which P holds, what `go` does
pub record Follows (P : ValueN → Type 0) (whole first : Does Value) (go : ValueN → Does Value) : Type 0 where
  pub behind : Value → Does Value
  pub is : (w : Memory) → whole w ≡ then (first w) behind
  pub on_single : (x : ValueN) (w : Memory) → P x → behind (single x) w ≡ go x w

-- any value
abbrev pub Any : ValueN → Type 0
Any x = Unit {0}

-- what is written as `whole` is a row on the value of `a`
abbrev pub RowOfOne : Scope → Jobs → (P : ValueN → Type 0) → (whole a : Exp) → (ValueN → Answer ValueN) → Type 0
RowOfOne S oracle P whole a row = Follows P (value_of S oracle whole) (value_of S oracle a) (λ x. answers (row x))

-- what is written as `whole` evaluates `a`, then `b`, and then is a row on their values
pub record RowOfTwo (S : Scope) (oracle : Jobs) (P : ValueN → Type 0) (whole a b : Exp) (row : ValueN → ValueN → Answer ValueN) : Type 0 where
  pub behind : Value → Does Value
  pub is : (w : Memory) → value_of S oracle whole w ≡ then (value_of S oracle a w) behind
  pub second : (x : ValueN) → P x → Follows Any (behind (single x)) (value_of S oracle b) (λ y. answers (row x y))

-- whatever a computation gives, P holds of it
abbrev pub GivesOnly : (P : ValueN → Type 0) → Outcome Memory ValueN → Type 0
GivesOnly P (gives o x w) = P x
GivesOnly P (raises o e w) = Unit {0}
GivesOnly P (spent o w) = Unit {0}
GivesOnly P (outside o) = Unit {0}

-- what is written as `e` gives single values, as `a` computes them
abbrev pub Computes : Scope → Jobs → Exp → Does ValueN → Type 0
Computes S oracle e a = (w : Memory) → value_of S oracle e w ≡ singly (a w)
