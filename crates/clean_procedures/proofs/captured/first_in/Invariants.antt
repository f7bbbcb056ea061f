use Rattle.std.proofs.Common.{◌≡◌, drop}
use Rattle.clean_procedures.specs.Captured.{first_in}
use Rattle.clean_procedures.proofs.captured.first_in.Given as goal

abbrev pub invariant-loop-first : goal.invariant-loop-first
invariant-loop-first l = first_in l.file l.firsts ≡ first_in l.file (drop l.first-index l.firsts)
