-- The facts that the rules on arrays ask for, as tests.
use Rattle.std.specs.Prelude.{ℕ, ℤ, Bool}
use Rattle.vb_tree.specs.BoundTree.{Ty}

pub record Known : Type 0 where
  -- the least lower bound of an array in a dimension, counted from 0
  pub low : (dimension array : ℕ) → ℤ
  -- its least rank
  pub rank : ℕ → ℕ
  -- an array with two lower bounds in one dimension
  pub splits : ℕ → Bool
  -- an array of a rank over 2, or of two ranks
  pub tears : ℕ → Bool
  -- an array variable that is made anew, erased or assigned whole, or passed on to a parameter that is
  pub resized : ℕ → Bool
  -- a user type that holds an array
  pub holds_array : ℕ → Bool
  -- a user type that holds an array or a fixed string
  pub holds_made : ℕ → Bool
  -- a procedure that reaches a line which gives arrays of elements of a type other elements as a whole
  pub locks : Ty → ℕ → Bool
