use Rattle.std.proofs.Common.{◌≡◌, drop}
use Rattle.bound_tree.specs.View.{passed_of}
use Rattle.byref_analysis.specs.Arguments.{misfits_from}
use Rattle.byref_analysis.specs.FactsOf.{quiet_by}
use Rattle.byref_analysis.proofs.arguments.misfits_from.Given as goal

abbrev pub invariant-loop-i : goal.invariant-loop-i
invariant-loop-i l =
    misfits_from (quiet_by l.declared l.facts) l.params 0 (passed_of l.args)
    ≡ misfits_from (quiet_by l.declared l.facts) l.params l.i (passed_of (drop l.i l.args))
