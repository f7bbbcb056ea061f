use Rattle.std.proofs.Common.{◌≡◌, ◌++◌, replicate}
use Rattle.net_emitter.proofs.expressions.write_rank.Given as goal

abbrev pub invariant-loop-comma : goal.invariant-loop-comma
invariant-loop-comma l = l.out ≡ l.initial.out ++ replicate l._comma 44
