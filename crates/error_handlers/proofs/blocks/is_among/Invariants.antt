use Rattle.std.proofs.Common.{◌≡◌, drop}
use Rattle.error_handlers.specs.Jumps.{is_among}
use Rattle.error_handlers.proofs.blocks.is_among.Given as goal

abbrev pub invariant-loop-h : goal.invariant-loop-h
invariant-loop-h l = is_among l.heads l.n ≡ is_among (drop l.h-index l.heads) l.n
