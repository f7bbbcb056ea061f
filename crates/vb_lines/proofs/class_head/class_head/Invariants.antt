use Rattle.std.proofs.Common.{◌≡◌, length}
use Rattle.vb_lines.specs.Modules.{class_head}
use Rattle.vb_lines.proofs.class_head.class_head.Given as goal

abbrev pub invariant-loop-rest : goal.invariant-loop-rest
invariant-loop-rest l = class_head l.rest ≡ class_head l.lines

abbrev pub decreases-loop-rest : goal.decreases-loop-rest
decreases-loop-rest l = length l.rest
