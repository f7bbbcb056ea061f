use Rattle.std.proofs.Common.{◌≡◌, drop}
use Rattle.std.specs.Prelude.{max}
use Rattle.clean_procedures.specs.Reaching.{greatest_pair}
use Rattle.clean_procedures.proofs.reaching.greatest_pair.Given as goal

abbrev pub invariant-loop-p : goal.invariant-loop-p
invariant-loop-p l = max l.most (greatest_pair (drop l.p-index l.pairs)) ≡ greatest_pair l.pairs
