use Rattle.std.proofs.Common.{◌≡◌, ◌++◌, map, drop}
use Rattle.bound_tree.specs.View.{procedure_of}
use Rattle.clean_procedures.specs.Pairs.{firsts_pairs}
use Rattle.clean_procedures.proofs.captured.push_ends.Given as goal

abbrev pub invariant-loop-i : goal.invariant-loop-i
invariant-loop-i l = l.initial.to.items ++ firsts_pairs l.firsts 0 (map procedure_of l.procs) ≡ l.to.items ++ firsts_pairs l.firsts l.i (map procedure_of (drop l.i l.procs))
