use Rattle.std.proofs.Common.{◌≡◌, take}
use Rattle.byref_analysis.specs.FactsOf.{quiet_by}
use Rattle.byref_analysis.specs.Quiet.{quiet_params}
use Rattle.byref_analysis.proofs.quiet.quiet_params.Given as goal

abbrev pub invariant-loop-w : goal.invariant-loop-w
invariant-loop-w l = l.flags.items ≡ quiet_params (quiet_by l.declared l.facts) (take l.w-index l.params)
