use Rattle.std.proofs.Common.{◌≡◌, drop}
use Rattle.error_handlers.specs.Jumps.{is_in_kind}
use Rattle.error_handlers.proofs.blocks.has_kind.Given as goal

abbrev pub invariant-loop-h : goal.invariant-loop-h
invariant-loop-h l = is_in_kind l.kind l.heads ≡ is_in_kind l.kind (drop l.h-index l.heads)
