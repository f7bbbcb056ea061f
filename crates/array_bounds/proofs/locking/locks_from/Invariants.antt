use Rattle.std.proofs.Common.{◌≡◌, drop}
use Rattle.bound_tree.specs.View.{declarations_of, passed_of}
use Rattle.array_bounds.specs.FactsOf.{known_of}
use Rattle.array_bounds.specs.Locking.{locks_from}
use Rattle.array_bounds.proofs.locking.locks_from.Given as goal

abbrev pub invariant-loop-i : goal.invariant-loop-i
invariant-loop-i l =
    locks_from (declarations_of l.facts.declared.now) (known_of l.facts) l.p (passed_of l.args) 0 (passed_of l.args)
    ≡ locks_from (declarations_of l.facts.declared.now) (known_of l.facts) l.p (passed_of l.args) l.i (passed_of (drop l.i l.args))
