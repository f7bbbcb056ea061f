use Rattle.std.proofs.Common.{◌≡◌, ◌++◌, map, drop}
use Rattle.bound_tree.specs.View.{procedure_of}
use Rattle.clean_procedures.specs.Broken.{is_under, those_from}
use Rattle.clean_procedures.specs.Options.{shown}
use Rattle.clean_procedures.proofs.broken.procedures_under.Given as goal

abbrev pub invariant-loop-i : goal.invariant-loop-i
invariant-loop-i l = l.all.items ++ those_from (is_under (map shown l.modules)) l.i (map procedure_of (drop l.i l.procs)) ≡ those_from (is_under (map shown l.modules)) 0 (map procedure_of l.procs)
