use Rattle.std.proofs.Common.{◌≡◌, ◌++◌, map, drop}
use Rattle.bound_tree.specs.View.{passed_of}
use Rattle.array_bounds.specs.Locking.{bound_elements}
use Rattle.array_bounds.specs.LockTables.{shown_type}
use Rattle.array_bounds.proofs.elements.push_elements.Given as goal

abbrev pub invariant-loop-arg : goal.invariant-loop-arg
invariant-loop-arg l =
    map shown_type l.initial.to.items ++ bound_elements (passed_of l.args) ≡ map shown_type l.to.items ++ bound_elements (passed_of (drop l.arg-index l.args))
