use Rattle.std.proofs.Common.{◌≡◌, ◌++◌, take}
use Rattle.up_base.specs.Names.{lower_case}
use Rattle.up_base.proofs.name.with_small_letters.Given as goal

abbrev pub invariant-loop-c : goal.invariant-loop-c
invariant-loop-c l = l.both.items ≡ l.bytes ++ lower_case (take l.c-index l.bytes)
