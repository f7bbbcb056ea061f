use Rattle.std.proofs.Common.{◌≡◌, map, take}
use Rattle.bound_tree.specs.Tree.{Procedure}
use Rattle.bound_tree.specs.View.{procedure_of}
use Rattle.byref_analysis.specs.FactsOf.{quiet_by}
use Rattle.byref_analysis.specs.Quiet.{quiet_params}
use Rattle.byref_analysis.proofs.quiet.quiet_flags.Given as goal

abbrev pub invariant-loop-p : goal.invariant-loop-p
invariant-loop-p l =
    l.all.items ≡ map (λ (p : Procedure). quiet_params (quiet_by l.declared l.facts) p.params) (map procedure_of (take l.p-index l.procs))
