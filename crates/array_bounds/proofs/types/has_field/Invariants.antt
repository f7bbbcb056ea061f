use Rattle.std.proofs.Common.{◌≡◌, map, drop}
use Rattle.bound_tree.specs.View.{variable_of}
use Rattle.array_bounds.specs.Types.{has_field, passes}
use Rattle.array_bounds.proofs.types.has_field.Given as goal

abbrev pub invariant-loop-f : goal.invariant-loop-f
invariant-loop-f l = has_field (map variable_of l.vars) (passes l.wanted) l.fields ≡ has_field (map variable_of l.vars) (passes l.wanted) (drop l.f-index l.fields)
