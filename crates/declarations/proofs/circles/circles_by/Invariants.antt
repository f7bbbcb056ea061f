use Rattle.declarations.proofs.Circling.{MarkSoFar}
use Rattle.declarations.proofs.circles.circles_by.Given as goal

abbrev pub invariant-loop-x : goal.invariant-loop-x
invariant-loop-x l = MarkSoFar l.types l.pairs l.vars l.all.items l.x-index
