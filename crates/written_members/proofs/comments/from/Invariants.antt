use Rattle.std.proofs.Common.{◌≡◌, length}
use Rattle.written_trees.specs.Comments.{from}
use Rattle.written_members.proofs.comments.from.Given as goal

abbrev pub invariant-loop-rest : goal.invariant-loop-rest
invariant-loop-rest l = from l.line l.rest ≡ from l.line l.comments

abbrev pub decreases-loop-rest : goal.decreases-loop-rest
decreases-loop-rest l = length l.rest
