-- What a program puts out, and how a computation ends.
use Rattle.std.specs.Prelude.{ℕ, List, [], ◌∷◌, ◌++◌, Option, Some, None}
use Rattle.vb6_meaning.specs.Answers.{Answer}
use Rattle.vb6_meaning.specs.Answers as value

-- what is put out: a text of UTF-16 units that is printed, asked with, or shown in a box
pub data Output : Type 0 where
  printed : List ℕ → Output
  asked : List ℕ → Output
  boxed : List ℕ → Output

-- the end of a printed line
abbrev pub line_end : List ℕ
line_end = 13 ∷ 10 ∷ []

-- How a computation ends: what it put out, and with the memory M then a value or a raised number; or no step was left; or it left what
-- its language's meaning covers.
pub data Outcome (M A : Type 0) : Type 0 where
  gives : List Output → A → M → Outcome M A
  raises : List Output → ℕ → M → Outcome M A
  spent : List Output → M → Outcome M A
  outside : List Output → Outcome M A

-- what was put out
abbrev pub outputs : {M A : Type 0} → Outcome M A → List Output
outputs (gives o a w) = o
outputs (raises o e w) = o
outputs (spent o w) = o
outputs (outside o) = o

-- the same, after what was put out before
abbrev pub after : {M A : Type 0} → List Output → Outcome M A → Outcome M A
after o (gives p a w) = gives (o ++ p) a w
after o (raises p e w) = raises (o ++ p) e w
after o (spent p w) = spent (o ++ p) w
after o (outside p) = outside (o ++ p)

-- goes on with the value
abbrev pub then : {M A B : Type 0} → Outcome M A → (A → M → Outcome M B) → Outcome M B
then (gives o a w) k = after o (k a w)
then (raises o e w) k = raises o e w
then (spent o w) k = spent o w
then (outside o) k = outside o

-- a value that is computed without the memory
abbrev pub answered : {M A : Type 0} → Answer A → M → Outcome M A
answered (value.gives x) w = gives [] x w
answered (value.raises number) w = raises [] number w
answered value.outside w = outside []

-- goes on with what is there
abbrev pub some_of : {M X A : Type 0} → Option X → (X → M → Outcome M A) → M → Outcome M A
some_of None go w = outside []
some_of (Some x) go w = go x w

-- gives what is there
abbrev pub found : {M A : Type 0} → Option A → M → Outcome M A
found None w = outside []
found (Some a) w = gives [] a w

-- ---- inputs: each answers one question; where none is left the answer is empty
abbrev pub first_input : List (List ℕ) → List ℕ
first_input [] = []
first_input (s ∷ inputs) = s

abbrev pub rest_inputs : List (List ℕ) → List (List ℕ)
rest_inputs [] = []
rest_inputs (s ∷ inputs) = inputs
