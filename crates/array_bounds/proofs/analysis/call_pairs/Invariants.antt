use Rattle.std.proofs.Common.{◌≡◌, map, take}
use Rattle.array_bounds.specs.Facts.{pair_of_call}
use Rattle.array_bounds.proofs.analysis.call_pairs.Given as goal

abbrev pub invariant-loop-c : goal.invariant-loop-c
invariant-loop-c l = l.pairs.items ≡ map pair_of_call (take l.c-index l.calls)
