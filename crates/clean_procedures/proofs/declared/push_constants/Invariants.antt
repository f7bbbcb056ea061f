use Rattle.std.proofs.Common.{◌≡◌, ◌++◌, map, drop}
use Rattle.bound_tree.specs.View.{constant_of}
use Rattle.clean_procedures.specs.Pairs.{constants_pairs}
use Rattle.clean_procedures.proofs.declared.push_constants.Given as goal

abbrev pub invariant-loop-i : goal.invariant-loop-i
invariant-loop-i l = l.initial.to.items ++ constants_pairs 0 (map constant_of l.consts) ≡ l.to.items ++ constants_pairs l.i (map constant_of (drop l.i l.consts))
