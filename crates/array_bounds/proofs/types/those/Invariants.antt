use Rattle.std.proofs.Common.{◌≡◌, ◌++◌, map, drop}
use Rattle.bound_tree.specs.View.{variable_of}
use Rattle.array_bounds.specs.Types.{passes, those_from}
use Rattle.array_bounds.proofs.types.those.Given as goal

abbrev pub invariant-loop-i : goal.invariant-loop-i
invariant-loop-i l =
    l.all.items ++ those_from (map variable_of l.vars) (passes l.wanted) l.i (drop l.i l.types) ≡ those_from (map variable_of l.vars) (passes l.wanted) 0 l.types
