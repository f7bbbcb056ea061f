use Rattle.std.proofs.Common.{◌≡◌, ◌++◌, drop, map}
use Rattle.bound_tree.specs.View.{variable_of}
use Rattle.declarations.specs.Circles.{pairs_of}
use Rattle.declarations.proofs.circles.pairs_of.Given as goal

abbrev pub invariant-loop-x : goal.invariant-loop-x
invariant-loop-x l =
    l.pairs.items ++ pairs_of (map variable_of (drop l.x-index l.vars)) ≡ pairs_of (map variable_of l.vars)
