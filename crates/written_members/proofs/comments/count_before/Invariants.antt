use Rattle.std.proofs.Common.{◌≡◌, ◌+◌, length, drop}
use Rattle.written_trees.specs.Comments.{before}
use Rattle.written_members.proofs.comments.count_before.Given as goal

abbrev pub invariant-loop-i : goal.invariant-loop-i
invariant-loop-i l = length (before l.line l.comments) ≡ l.i + length (before l.line (drop l.i l.comments))
