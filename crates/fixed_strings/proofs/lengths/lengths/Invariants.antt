use Rattle.std.proofs.Common.{◌≡◌, ◌++◌, map, drop}
use Rattle.bound_tree.specs.View.{variable_of}
use Rattle.fixed_strings.specs.Lengths.{lengths_from}
use Rattle.fixed_strings.proofs.lengths.lengths.Given as goal

abbrev pub invariant-loop-i : goal.invariant-loop-i
invariant-loop-i l = l.all.items ++ lengths_from l.i (map variable_of (drop l.i l.vars)) ≡ lengths_from 0 (map variable_of l.vars)
