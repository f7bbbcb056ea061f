use Rattle.std.proofs.Common.{◌≡◌, ◌++◌, map, drop}
use Rattle.bound_tree.specs.View.{variable_of}
use Rattle.array_bounds.specs.Givens.{variable_ranks}
use Rattle.array_bounds.proofs.givens.push_variable_ranks.Given as goal

abbrev pub invariant-loop-i : goal.invariant-loop-i
invariant-loop-i l = l.initial.to.items ++ variable_ranks 0 (map variable_of l.vars) ≡ l.to.items ++ variable_ranks l.i (map variable_of (drop l.i l.vars))
