use Rattle.std.proofs.Common.{◌≡◌, ℕ, suc, ◌-◌, vec_len}
use Rattle.array_bounds.specs.Ranges.{range_at}
use Rattle.array_bounds.proofs.ranges.reach.Given as goal

abbrev pub invariant-loop-row : goal.invariant-loop-row
invariant-loop-row l = (e : ℕ) → range_at l.row.items e ≡ range_at l.initial.row.items e

abbrev pub decreases-loop-row : goal.decreases-loop-row
decreases-loop-row l = suc l.d - vec_len l.row
