-- When one pledge promises no more than another.
use Rattle.std.specs.Prelude.{ℕ, ◌<◌, Option, Some, None}
use Rattle.vb_tree.specs.BoundTree.{Ty}
use Rattle.run_base.specs.Outcomes.{Outcome, gives, raises, spent, outside}
use Rattle.run_base.specs.Positions.{Root}
use Rattle.run_matches.specs.Maps.{World, mark, IsMade}
use Rattle.run_matches.specs.Pledges.{Pledge, IsOld}

-- From the world w on, L promises no more than K: of what was made there, and of the arrays that are there.
pub record Weaker (w : World) (L K : Pledge) : Type 0 where
  pub keeps : (ty : Ty) → L.keeps ty → K.keeps ty
  pub steady : L.steady → K.steady
  pub old : (r : Root) → IsMade (mark w.src) r → L.steady → IsOld L r → IsOld K r
  pub takes : (k : ℕ) → k < w.net.next_array → K.takes k → L.takes k

-- where the first is there, so is the second, and they are related
pub data Follows {A B : Type 0} (R : A → B → Type 0) : Option A → Option B → Type 0 where
  from_none : (b : Option B) → Follows R None b
  from_some : (a : A) (b : B) → R a b → Follows R (Some a) (Some b)

-- what a computation gives, and the memory that it leaves then
abbrev pub Yields : {M A : Type 0} → (A → M → Type 0) → Outcome M A → Type 0
Yields Q (gives o a w) = Q a w
Yields Q (raises o e w) = Unit {0}
Yields Q (spent o w) = Unit {0}
Yields Q (outside o) = Unit {0}
