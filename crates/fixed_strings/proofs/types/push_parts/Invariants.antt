use Rattle.std.proofs.Common.{◌≡◌, ◌++◌, map, take}
use Rattle.bound_tree.specs.View.{variable_of}
use Rattle.fixed_strings.specs.Declaring.{field_parts}
use Rattle.fixed_strings.proofs.types.push_parts.Given as goal

abbrev pub invariant-loop-f : goal.invariant-loop-f
invariant-loop-f l = l.to.items ≡ l.initial.to.items ++ field_parts (map variable_of l.vars) l.k (take l.f-index l.fields)
