use Rattle.std.proofs.Common.{◌+◌, ◌-◌, ◌≤◌, length, take, drop}
use Rattle.reach_table.specs.Worklists.{FollowedTo, GrowsBy, IsReachedFrom, total_degree}
use Rattle.reach_table.proofs.reach.follow_all.Given as goal

abbrev pub invariant-loop-place : goal.invariant-loop-place
invariant-loop-place g l = record {
  within : l.place ≤ length l.list.nodes;
  behind : l.from ≤ l.place;
  grows : GrowsBy (IsReachedFrom l.arrows.pairs (drop l.from l.initial.list.nodes)) l.initial.list l.list;
  followed : FollowedTo l.arrows.pairs l.list.nodes l.place;
  reads : l.steps + total_degree l.arrows.pairs (take l.from l.initial.list.nodes) ≤ l.initial.steps + total_degree l.arrows.pairs (take l.place l.list.nodes);
}

abbrev pub decreases-loop-place : goal.decreases-loop-place
decreases-loop-place g l = l.list.limit - l.place
