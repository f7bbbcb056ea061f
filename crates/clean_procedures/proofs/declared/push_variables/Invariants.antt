use Rattle.std.proofs.Common.{◌≡◌, ◌++◌, map, drop}
use Rattle.bound_tree.specs.View.{variable_of}
use Rattle.clean_procedures.specs.Pairs.{variables_pairs}
use Rattle.clean_procedures.proofs.declared.push_variables.Given as goal

abbrev pub invariant-loop-i : goal.invariant-loop-i
invariant-loop-i l = l.initial.to.items ++ variables_pairs 0 (map variable_of l.vars) ≡ l.to.items ++ variables_pairs l.i (map variable_of (drop l.i l.vars))
