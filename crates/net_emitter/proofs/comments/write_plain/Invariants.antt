use Rattle.std.proofs.Common.{length, ◌+◌, ◌-◌, ◌≡◌, ◌++◌, ◌≤◌, drop, take}
use Rattle.net_tree.specs.Comments.{utf8_of}
use Rattle.net_emitter.proofs.comments.write_plain.Given as goal

abbrev pub invariant-loop-count : goal.invariant-loop-count
invariant-loop-count l =
    (take l.count l.piece ++ utf8_of (drop (l.at + l.count) l.units) ≡ utf8_of (drop l.at l.units))
    × (length l.piece ≡ 64)
    × (l.count ≤ 64)
    × (l.at + l.count ≤ length l.units)

abbrev pub decreases-loop-count : goal.decreases-loop-count
decreases-loop-count l = 64 - l.count
