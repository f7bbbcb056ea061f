-- A table of pairs of nodes in order, and where the pairs of one node stand in it.
use Rattle.std.specs.Prelude.{◌≡◌, ◌==◌, ◌⊎◌, ◌↔◌, ◌+◌, ◌^◌, ◌<◌, ◌≤◌, ℕ, Bool, List, length, slice_index, slice_index_or}
use Rattle.std.specs.List.{All, AllPairs}

-- the nodes are the numbers below `nodes`
pub record Table : Type 0 where
  pub nodes : ℕ
  pub pairs : List (ℕ × ℕ)

-- by the first number, and then by the second
abbrev pub IsBefore : ℕ × ℕ → ℕ × ℕ → Type 0
IsBefore p q = (p.0 < q.0) ⊎ ((p.0 ≡ q.0) × (p.1 < q.1))

abbrev pub IsBelow : ℕ → ℕ × ℕ → Type 0
IsBelow nodes p = (p.0 < nodes) × (p.1 < nodes)

-- the pairs are of nodes, in order, each once, and their number fits 32 bits
pub record IsTable (table : Table) : Type 0 where
  pub sorted : AllPairs IsBefore table.pairs
  pub below : All (IsBelow table.nodes) table.pairs
  pub few : length table.pairs < 2 ^ 32

abbrev pub begins_at : ℕ → ℕ × ℕ → Bool
begins_at node p = p.0 == node

-- the pairs that begin at the node stand at as many places from the first on; the first is 0 where there are none
pub record IsRun (pairs : List (ℕ × ℕ)) (node first number : ℕ) : Type 0 where
  pub within : first + number ≤ length pairs
  pub places : (k : ℕ) (d : ℕ × ℕ) → k < length pairs → ((slice_index_or pairs k d).0 ≡ node) ↔ ((first ≤ k) × (k < first + number))
  pub none : number ≡ 0 → first ≡ 0

-- the pairs that begin below the node are those before the start
pub record IsStart (pairs : List (ℕ × ℕ)) (node start : ℕ) : Type 0 where
  pub within : start ≤ length pairs
  pub before : (k : ℕ) (d : ℕ × ℕ) → k < start → (slice_index_or pairs k d).0 < node
  pub behind : (k : ℕ) (d : ℕ × ℕ) → start ≤ k → k < length pairs → node ≤ (slice_index_or pairs k d).0

-- a start for each node, and one for the number of nodes
pub record AreStarts (nodes : ℕ) (pairs : List (ℕ × ℕ)) (starts : List ℕ) : Type 0 where
  pub len : length starts ≡ nodes + 1
  pub each : (node : ℕ) → node ≤ nodes → IsStart pairs node (slice_index starts node)

pub record IsIndexed (nodes : ℕ) (pairs : List (ℕ × ℕ)) (starts : List ℕ) : Type 0 where
  pub table : IsTable (record { nodes = nodes; pairs = pairs })
  pub index : AreStarts nodes pairs starts
