use Rattle.std.proofs.Common.{◌≡◌, map, drop}
use Rattle.bound_tree.specs.View.{variable_of}
use Rattle.fixed_strings.specs.Declaring.{has_fixed_field}
use Rattle.fixed_strings.proofs.types.has_fixed_field.Given as goal

abbrev pub invariant-loop-f : goal.invariant-loop-f
invariant-loop-f l = has_fixed_field (map variable_of l.vars) l.fields ≡ has_fixed_field (map variable_of l.vars) (drop l.f-index l.fields)
