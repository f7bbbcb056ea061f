use Rattle.std.proofs.Common.{◌≡◌, ◌++◌, map, take}
use Rattle.bound_tree.specs.View.{variable_of}
use Rattle.array_bounds.specs.Types.{field_pairs}
use Rattle.array_bounds.proofs.types.push_pairs.Given as goal

abbrev pub invariant-loop-f : goal.invariant-loop-f
invariant-loop-f l = l.to.items ≡ l.initial.to.items ++ field_pairs (map variable_of l.vars) l.t (take l.f-index l.fields)
