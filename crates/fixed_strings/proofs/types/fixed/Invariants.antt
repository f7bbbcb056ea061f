use Rattle.std.proofs.Common.{◌≡◌, ◌++◌, map, drop}
use Rattle.bound_tree.specs.View.{variable_of}
use Rattle.fixed_strings.specs.Declaring.{fixed_from}
use Rattle.fixed_strings.proofs.types.fixed.Given as goal

abbrev pub invariant-loop-i : goal.invariant-loop-i
invariant-loop-i l = l.all.items ++ fixed_from (map variable_of l.vars) l.i (drop l.i l.types) ≡ fixed_from (map variable_of l.vars) 0 l.types
