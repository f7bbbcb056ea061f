use Rattle.std.proofs.Common.{◌≡◌, ◌++◌, map, drop}
use Rattle.bound_tree.specs.View.{constant_of}
use Rattle.clean_procedures.specs.Broken.{constant_statements}
use Rattle.clean_procedures.proofs.statements.push_constants.Given as goal

abbrev pub invariant-loop-i : goal.invariant-loop-i
invariant-loop-i l = l.initial.to.items ++ constant_statements l.sets 0 (map constant_of l.consts) ≡ l.to.items ++ constant_statements l.sets l.i (map constant_of (drop l.i l.consts))
