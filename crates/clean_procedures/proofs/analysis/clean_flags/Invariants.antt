use Rattle.std.proofs.Common.{◌≡◌}
use Rattle.clean_procedures.specs.Verdicts.{clean_to}
use Rattle.clean_procedures.proofs.analysis.clean_flags.Given as goal

abbrev pub invariant-loop-i : goal.invariant-loop-i
invariant-loop-i l = l.flags.items ≡ clean_to l.dirty l.i
