use Rattle.std.proofs.Common.{◌≡◌, ◌++◌, map, drop}
use Rattle.bound_tree.specs.View.{variable_of}
use Rattle.clean_procedures.specs.Broken.{variable_statements}
use Rattle.clean_procedures.proofs.statements.push_variables.Given as goal

abbrev pub invariant-loop-i : goal.invariant-loop-i
invariant-loop-i l = l.initial.to.items ++ variable_statements l.sets 0 (map variable_of l.vars) ≡ l.to.items ++ variable_statements l.sets l.i (map variable_of (drop l.i l.vars))
