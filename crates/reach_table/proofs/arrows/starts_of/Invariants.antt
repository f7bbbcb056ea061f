use Rattle.std.proofs.Common.{◌≡◌, ℕ, ◌<◌, length, get_or}
use Rattle.reach_table.specs.Table.{IsStart}
use Rattle.reach_table.proofs.arrows.starts_of.Given as goal

abbrev pub invariant-loop-node : goal.invariant-loop-node
invariant-loop-node l = (length l.starts.items ≡ l.node-counter) × ((n : ℕ) → n < l.node-counter → IsStart l.pairs n (get_or l.starts.items n 0))
