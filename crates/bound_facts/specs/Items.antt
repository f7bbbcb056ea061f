-- What the lines of a project give.
use Rattle.std.specs.Prelude.{ℕ, ◌+◌, List, [], ◌∷◌, ◌++◌}
use Rattle.std.specs.List.{flat_map}
use Rattle.bound_tree.specs.Tree.{Line}

-- what the lines of procedures that are numbered from i give, in order
abbrev pub items_from : {X : Type 0} → (ℕ → Line → List X) → ℕ → List (List Line) → List X
items_from items i [] = []
items_from items i (lines ∷ rest) = flat_map (items i) lines ++ items_from items (i + 1) rest

-- what the lines of a project give, by the number of their procedure
abbrev pub project_items : {X : Type 0} → (ℕ → Line → List X) → List (List Line) → List X
project_items items bodies = items_from items 0 bodies
