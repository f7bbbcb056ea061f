use Rattle.std.proofs.Common.{◌≡◌, ◌+◌, ◌≤◌, length}
use Rattle.reach_table.specs.Worklists.{HasParts, total_degree}
use Rattle.reach_table.proofs.partition.parts.Given as goal

abbrev pub invariant-loop-root : goal.invariant-loop-root
invariant-loop-root g l = record {
  limit : l.list.limit ≡ l.arrows.nodes;
  len : length l.least.items ≡ l.arrows.nodes;
  parts : HasParts l.arrows.pairs l.list.nodes l.least.items l.root;
  bound : l.steps ≤ l.initial.steps + length l.arrows.pairs;
  reads : l.steps ≤ l.initial.steps + total_degree l.arrows.pairs l.list.nodes;
}
