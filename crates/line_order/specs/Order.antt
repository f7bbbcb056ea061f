-- The order of the lines of a module.
use Rattle.std.specs.Prelude.{ℕ, ◌≤◌, List, [], ◌∷◌, map}
use Rattle.vb_tree.specs.FlatLines.{module_lines}
use Rattle.vb_tree.specs.Tree.{Line, Module}

-- numbers that don't fall, none of them less than a first one
abbrev pub AreRising : ℕ → List ℕ → Type 0
AreRising from [] = Unit {0}
AreRising from (n ∷ ns) = (from ≤ n) × AreRising n ns

-- the lines of a module stand in the order of their numbers
abbrev pub LinesAreInOrder : Module → Type 0
LinesAreInOrder m = AreRising 0 (map (λ (l : Line). l.place.line) (module_lines m))

-- so they do in each module
abbrev pub AreInOrder : List Module → Type 0
AreInOrder [] = Unit {0}
AreInOrder (m ∷ ms) = LinesAreInOrder m × AreInOrder ms
