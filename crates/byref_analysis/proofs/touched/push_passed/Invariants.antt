use Rattle.std.proofs.Common.{◌≡◌, ◌++◌, drop}
use Rattle.bound_tree.specs.View.{passed_of}
use Rattle.bound_facts.specs.Effects.{passed_roots}
use Rattle.byref_analysis.proofs.touched.push_passed.Given as goal

abbrev pub invariant-loop-arg : goal.invariant-loop-arg
invariant-loop-arg l = l.initial.to.items ++ passed_roots (passed_of l.args) ≡ l.to.items ++ passed_roots (passed_of (drop l.arg-index l.args))
