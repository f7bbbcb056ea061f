use Rattle.std.proofs.Common.{◌≡◌, ℕ, take}
use Rattle.reach_table.specs.Chains.{is_marked}
use Rattle.reach_table.specs.Worklists.{has}
use Rattle.reach_table.proofs.reach.marked_nodes.Given as goal

abbrev pub invariant-loop-node : goal.invariant-loop-node
invariant-loop-node l = (l.list.limit ≡ l.limit) × ((n : ℕ) → has l.list.nodes n ≡ is_marked (take l.node l.marked) n)
