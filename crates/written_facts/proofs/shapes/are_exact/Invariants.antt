use Rattle.std.proofs.Common.{◌≡◌, drop}
use Rattle.written_facts.specs.Shapes.{are_exact}
use Rattle.written_facts.proofs.shapes.are_exact.Given as goal

abbrev pub invariant-loop-x : goal.invariant-loop-x
invariant-loop-x l = are_exact l.ranks ≡ are_exact (drop l.x-index l.ranks)
