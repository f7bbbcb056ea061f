use Rattle.std.proofs.Common.{◌≡◌, ◌+◌, length, drop}
use Rattle.written_trees.specs.Comments.{up_to}
use Rattle.written_members.proofs.comments.count_up_to.Given as goal

abbrev pub invariant-loop-i : goal.invariant-loop-i
invariant-loop-i l = length (up_to l.line l.comments) ≡ l.i + length (up_to l.line (drop l.i l.comments))
