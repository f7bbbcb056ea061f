use Rattle.std.proofs.Common.{◌≡◌, drop}
use Rattle.clean_procedures.specs.Broken.{some_broken}
use Rattle.clean_procedures.proofs.broken.some_broken.Given as goal

abbrev pub invariant-loop-set : goal.invariant-loop-set
invariant-loop-set l = some_broken l.sets ≡ some_broken (drop l.set-index l.sets)
