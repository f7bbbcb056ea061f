use Rattle.std.proofs.Common.{◌≡◌, ◌++◌, map, drop}
use Rattle.bound_tree.specs.View.{variable_of}
use Rattle.clean_procedures.specs.Broken.{is_variable_among, those_from}
use Rattle.clean_procedures.proofs.broken.variables_among.Given as goal

abbrev pub invariant-loop-i : goal.invariant-loop-i
invariant-loop-i l = l.all.items ++ those_from (is_variable_among l.set.keys) l.i (map variable_of (drop l.i l.vars)) ≡ those_from (is_variable_among l.set.keys) 0 (map variable_of l.vars)
