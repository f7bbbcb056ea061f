use Rattle.std.proofs.Common.{◌≡◌, ◌++◌, drop}
use Rattle.clean_procedures.specs.Pairs.{types_pairs}
use Rattle.clean_procedures.proofs.declared.push_types.Given as goal

abbrev pub invariant-loop-i : goal.invariant-loop-i
invariant-loop-i l = l.initial.to.items ++ types_pairs 0 l.types ≡ l.to.items ++ types_pairs l.i (drop l.i l.types)
