use Rattle.std.proofs.Common.{◌≡◌, length}
use Rattle.vb_lines.specs.Modules.{settings}
use Rattle.vb_lines.proofs.class_head.settings.Given as goal

abbrev pub invariant-loop-rest : goal.invariant-loop-rest
invariant-loop-rest l = settings l.rest ≡ settings l.lines

abbrev pub decreases-loop-rest : goal.decreases-loop-rest
decreases-loop-rest l = length l.rest
