use Rattle.std.proofs.Common.{◌≡◌, map, take}
use Rattle.bound_tree.specs.View.{variable_of}
use Rattle.object_rules.specs.Rows.{variable_rules}
use Rattle.object_rules.proofs.autos.variables_rules.Given as goal

abbrev pub invariant-loop-v : goal.invariant-loop-v
invariant-loop-v l = l.sets.items ≡ map variable_rules (map variable_of (take l.v-index l.vars))
