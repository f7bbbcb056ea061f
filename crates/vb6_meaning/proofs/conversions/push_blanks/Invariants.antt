use Rattle.std.proofs.Common.{◌≡◌, ◌++◌}
use Rattle.std.specs.Prelude.{replicate}
use Rattle.vb6_meaning.proofs.conversions.push_blanks.Given as goal

abbrev pub invariant-loop : goal.invariant-loop
invariant-loop l = l.out ≡ l.initial.out ++ replicate l.counter 32
