use Rattle.std.proofs.Common.{◌≡◌, ℕ, ◌<◌, cond, length, get_or, take}
use Rattle.reach_table.specs.Worklists.{has}
use Rattle.reach_table.proofs.partition.set_all.Given as goal

abbrev pub invariant-loop-node : goal.invariant-loop-node
invariant-loop-node l =
    (n : ℕ) → n < length l.least → get_or l.least n 0 ≡ cond (has (take l.node-index l.nodes) n) l.root (get_or l.initial.least n 0)
