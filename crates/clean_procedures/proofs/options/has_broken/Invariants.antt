use Rattle.std.proofs.Common.{◌≡◌, map, drop}
use Rattle.clean_procedures.specs.Options.{has_broken, shown}
use Rattle.clean_procedures.proofs.options.has_broken.Given as goal

abbrev pub invariant-loop-module : goal.invariant-loop-module
invariant-loop-module l = has_broken l.file (map shown l.modules) ≡ has_broken l.file (map shown (drop l.module-index l.modules))
