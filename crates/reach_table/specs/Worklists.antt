-- The nodes that a search has reached so far, and those of them that it has followed.
use Rattle.std.specs.Prelude.{◌≡◌, ◌<◌, ℕ, Bool, true, List, [], ◌∷◌, ◌++◌, length, if◌then◌else◌, nat_eq, count_by, slice_index}
use Rattle.std.specs.List.{All, Contains, IsDistinct, list_any, sum_by}
use Rattle.reach_table.specs.Table.{begins_at}
use Rattle.reach_table.specs.Chains.{Chain, IsLeast, is_marked}

-- the nodes in the order in which they were reached, of those below `limit`
pub record Reached : Type 0 where
  pub limit : ℕ
  pub nodes : List ℕ

abbrev pub has : List ℕ → ℕ → Bool
has nodes node = list_any (nat_eq node) nodes

-- the node behind the others, unless it is one of them
abbrev pub with_node : List ℕ → ℕ → List ℕ
with_node nodes node = if has nodes node then nodes else nodes ++ node ∷ []

-- each node is below the limit and was reached once
pub record IsReached (reached : Reached) : Type 0 where
  pub below : All (λ n. n < reached.limit) reached.nodes
  pub distinct : IsDistinct nat_eq reached.nodes

-- the marks are those of the nodes
pub record IsMarkedList (marks : List Bool) (nodes : List ℕ) : Type 0 where
  pub reached : IsReached (record { limit = length marks; nodes = nodes })
  pub marked : (node : ℕ) → is_marked marks node ≡ has nodes node

-- nodes with a property were put behind the others, and nothing else changed
abbrev pub GrowsBy : (ℕ → Type 0) → Reached → Reached → Type 0
GrowsBy P old new = (more : List ℕ) × (new ≡ record old { nodes = old.nodes ++ more }) × All P more

-- how many pairs begin at the node
abbrev pub out_degree : List (ℕ × ℕ) → ℕ → ℕ
out_degree pairs node = count_by (begins_at node) pairs

-- how many pairs begin at the nodes
abbrev pub total_degree : List (ℕ × ℕ) → List ℕ → ℕ
total_degree pairs nodes = sum_by (out_degree pairs) nodes

-- each node that a pair from this one leads to is among the nodes
abbrev pub HasNext : List (ℕ × ℕ) → List ℕ → ℕ → Type 0
HasNext pairs nodes node = (next : ℕ) → Contains pairs (node, next) → has nodes next ≡ true

-- the nodes before the place were followed
abbrev pub FollowedTo : List (ℕ × ℕ) → List ℕ → ℕ → Type 0
FollowedTo pairs nodes place = (k : ℕ) → k < place → HasNext pairs nodes (slice_index nodes k)

-- every node was followed
abbrev pub IsFollowed : List (ℕ × ℕ) → List ℕ → Type 0
IsFollowed pairs nodes = FollowedTo pairs nodes (length nodes)

-- a chain leads from one of the nodes to the node
abbrev pub IsReachedFrom : List (ℕ × ℕ) → List ℕ → ℕ → Type 0
IsReachedFrom pairs nodes node = (from : ℕ) × (has nodes from ≡ true) × Chain pairs from node

-- the nodes are whole parts, those of the nodes below the root among them, and the least node of each is known
pub record HasParts (pairs : List (ℕ × ℕ)) (nodes smallest : List ℕ) (root : ℕ) : Type 0 where
  pub whole : IsFollowed pairs nodes
  pub below : (node : ℕ) → node < root → has nodes node ≡ true
  pub least : (node : ℕ) → has nodes node ≡ true → IsLeast (Chain pairs node) (slice_index smallest node)
