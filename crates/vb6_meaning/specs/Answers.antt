-- How the computation of a value ends.
use Rattle.std.specs.Prelude.{ℕ}

-- with a value; or with a raised error number; or it leaves what its language's meaning covers
pub data Answer (A : Type 0) : Type 0 where
  gives : A → Answer A
  raises : ℕ → Answer A
  outside : Answer A

-- goes on with the value; the first raised number or outside stands
abbrev pub then_answer : {A B : Type 0} → Answer A → (A → Answer B) → Answer B
then_answer (gives x) next = next x
then_answer (raises number) next = raises number
then_answer outside next = outside
