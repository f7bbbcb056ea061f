use Rattle.std.proofs.Common.{◌≡◌, ◌+◌, ◌≤◌, length}
use Rattle.net_exprs.specs.Types.{commas_from}
use Rattle.net_exprs.proofs.types.commas.Given as goal

abbrev pub invariant-commas : goal.invariant-commas
invariant-commas l = record {
  same : commas_from l.rank l.rest ≡ commas_from 1 l.fn.text;
  within : l.rank + length l.rest ≤ 1 + length l.fn.text;
  shorter : length l.rest ≤ length l.fn.text;
}

abbrev pub decreases-commas : goal.decreases-commas
decreases-commas l = length l.rest
