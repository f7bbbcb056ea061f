use Rattle.std.proofs.Common.{◌≡◌, ◌++◌, map, drop}
use Rattle.bound_tree.specs.View.{variable_of}
use Rattle.array_bounds.specs.Types.{user_pairs}
use Rattle.array_bounds.proofs.types.user_pairs.Given as goal

abbrev pub invariant-loop-i : goal.invariant-loop-i
invariant-loop-i l = l.all.items ++ user_pairs (map variable_of l.vars) l.i (drop l.i l.types) ≡ user_pairs (map variable_of l.vars) 0 l.types
