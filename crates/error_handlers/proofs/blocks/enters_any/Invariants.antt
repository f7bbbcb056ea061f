use Rattle.std.proofs.Common.{◌≡◌, drop}
use Rattle.error_handlers.specs.Jumps.{enters}
use Rattle.error_handlers.proofs.blocks.enters_any.Given as goal

abbrev pub invariant-loop-h : goal.invariant-loop-h
invariant-loop-h l = enters l.from l.to ≡ enters l.from (drop l.h-index l.to)
