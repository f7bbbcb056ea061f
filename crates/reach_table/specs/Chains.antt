-- Chains of pairs, and the nodes that they lead to.
use Rattle.std.specs.Prelude.{◌≡◌, ◌≤◌, ℕ, Bool, true, false, List, slice_index_or}
use Rattle.std.specs.List.{Contains}

-- a chain of pairs, perhaps an empty one, leads from one node to another
pub data Chain (pairs : List (ℕ × ℕ)) : ℕ → ℕ → Type 0 where
  empty : (a : ℕ) → Chain pairs a a
  longer : (a b c : ℕ) → Chain pairs a b → Contains pairs (b, c) → Chain pairs a c

abbrev pub is_marked : List Bool → ℕ → Bool
is_marked marked node = slice_index_or marked node false

-- a chain leads from a marked node to the node
abbrev pub Spread : List (ℕ × ℕ) → List Bool → ℕ → Type 0
Spread pairs marked node = (from : ℕ) × (is_marked marked from ≡ true) × Chain pairs from node

-- the number has the property, and no smaller one does
abbrev pub IsLeast : (ℕ → Type 0) → ℕ → Type 0
IsLeast P n = P n × ((m : ℕ) → P m → n ≤ m)

-- with each pair its reverse is among them
abbrev pub IsSymmetric : List (ℕ × ℕ) → Type 0
IsSymmetric pairs = (a b : ℕ) → Contains pairs (a, b) → Contains pairs (b, a)
