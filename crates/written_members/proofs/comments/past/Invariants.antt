use Rattle.std.proofs.Common.{◌≡◌, length}
use Rattle.written_trees.specs.Comments.{past}
use Rattle.written_members.proofs.comments.past.Given as goal

abbrev pub invariant-loop-rest : goal.invariant-loop-rest
invariant-loop-rest l = past l.line l.rest ≡ past l.line l.comments

abbrev pub decreases-loop-rest : goal.decreases-loop-rest
decreases-loop-rest l = length l.rest
