use Rattle.std.proofs.Common.{◌≡◌, length}
use Rattle.vb_lines.specs.Modules.{begin_line}
use Rattle.vb_lines.proofs.class_head.begin_line.Given as goal

abbrev pub invariant-loop-rest : goal.invariant-loop-rest
invariant-loop-rest l = begin_line l.rest ≡ begin_line l.lines

abbrev pub decreases-loop-rest : goal.decreases-loop-rest
decreases-loop-rest l = length l.rest
