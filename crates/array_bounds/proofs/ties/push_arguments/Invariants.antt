use Rattle.std.proofs.Common.{◌≡◌, ◌++◌, drop}
use Rattle.bound_tree.specs.View.{declarations_of, passed_of}
use Rattle.bound_facts.specs.Bounds.{argument_ties}
use Rattle.array_bounds.proofs.ties.push_arguments.Given as goal

abbrev pub invariant-loop-i : goal.invariant-loop-i
invariant-loop-i l =
    l.initial.to.items ++ argument_ties (declarations_of l.declared) l.params 0 (passed_of l.args)
    ≡ l.to.items ++ argument_ties (declarations_of l.declared) l.params l.i (passed_of (drop l.i l.args))
