use Rattle.std.proofs.Common.{◌≡◌, ◌++◌, map, drop}
use Rattle.bound_tree.specs.View.{variable_of}
use Rattle.object_rules.specs.Autos.{autos_from}
use Rattle.object_rules.proofs.autos.autos.Given as goal

abbrev pub invariant-loop-i : goal.invariant-loop-i
invariant-loop-i l = l.all.items ++ autos_from l.i (map variable_of (drop l.i l.vars)) ≡ autos_from 0 (map variable_of l.vars)
