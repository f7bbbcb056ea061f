use Rattle.std.proofs.Common.{◌≡◌, map, drop}
use Rattle.clean_procedures.specs.Options.{is_broken_at, shown}
use Rattle.clean_procedures.proofs.options.is_broken_at.Given as goal

abbrev pub invariant-loop-module : goal.invariant-loop-module
invariant-loop-module l = is_broken_at l.file l.statement (map shown l.modules) ≡ is_broken_at l.file l.statement (map shown (drop l.module-index l.modules))
