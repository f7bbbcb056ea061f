use Rattle.std.proofs.Common.{◌≡◌, ◌++◌, drop}
use Rattle.bound_tree.specs.View.{passed_of}
use Rattle.bound_facts.specs.Effects.{passes_from}
use Rattle.array_bounds.proofs.resized.push_passes.Given as goal

abbrev pub invariant-loop-i : goal.invariant-loop-i
invariant-loop-i l = l.initial.to.items ++ passes_from l.params 0 (passed_of l.args) ≡ l.to.items ++ passes_from l.params l.i (passed_of (drop l.i l.args))
