use Rattle.std.proofs.Common.{◌≡◌, drop}
use Rattle.std.specs.Prelude.{max}
use Rattle.clean_procedures.specs.Reaching.{greatest_number}
use Rattle.clean_procedures.proofs.reaching.greatest_number.Given as goal

abbrev pub invariant-loop-n : goal.invariant-loop-n
invariant-loop-n l = max l.most (greatest_number (drop l.n-index l.list)) ≡ greatest_number l.list
