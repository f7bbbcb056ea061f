use Rattle.std.proofs.Common.{◌≡◌, drop}
use Rattle.bound_tree.specs.View.{passed_of}
use Rattle.array_bounds.specs.Elements.{gives_fixed}
use Rattle.array_bounds.specs.FactsOf.{known_of}
use Rattle.array_bounds.proofs.misfits.gives_fixed.Given as goal

abbrev pub invariant-loop-i : goal.invariant-loop-i
invariant-loop-i l = gives_fixed (known_of l.facts) l.params 0 (passed_of l.args) ≡ gives_fixed (known_of l.facts) l.params l.i (passed_of (drop l.i l.args))
