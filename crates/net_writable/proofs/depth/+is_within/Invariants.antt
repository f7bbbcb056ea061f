use Rattle.std.proofs.Common.{◌≡◌, ◌+◌, ◌*◌, drop, nat_le}
use Rattle.net_tree.specs.Depth.{depth_exps}
use Rattle.net_tree.specs.View.{exps_of}
use Rattle.net_writable.proofs.depth.+is_within.Given as goal

abbrev pub decreases-is_within : goal.decreases-is_within
decreases-is_within l = 3 * l.room

abbrev pub decreases-are_parts_within : goal.decreases-are_parts_within
decreases-are_parts_within l = 3 * l.room + 2

abbrev pub decreases-are_within : goal.decreases-are_within
decreases-are_within l = 3 * l.room + 1

abbrev pub invariant-are_within-loop-e : goal.invariant-are_within-loop-e
invariant-are_within-loop-e l = nat_le (depth_exps (exps_of l.list)) l.room ≡ nat_le (depth_exps (exps_of (drop l.e-index l.list))) l.room
