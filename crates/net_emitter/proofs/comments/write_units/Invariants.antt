use Rattle.std.proofs.Common.{length, ◌-◌, ◌≡◌, ◌++◌, ◌≤◌, drop}
use Rattle.net_tree.specs.Comments.{utf8_of}
use Rattle.net_emitter.proofs.comments.write_units.Given as goal

abbrev pub invariant-loop-at : goal.invariant-loop-at
invariant-loop-at l = (l.out ++ utf8_of (drop l.at l.units) ≡ l.initial.out ++ utf8_of l.units) × (l.at ≤ length l.units)

abbrev pub decreases-loop-at : goal.decreases-loop-at
decreases-loop-at l = length l.units - l.at
