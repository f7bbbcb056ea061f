use Rattle.std.proofs.Common.{◌≡◌, take}
use Rattle.support_text.proofs.parts.text.Given as goal

abbrev pub invariant-loop-c : goal.invariant-loop-c
invariant-loop-c l = l.units.items ≡ take l.c-index l.ascii
