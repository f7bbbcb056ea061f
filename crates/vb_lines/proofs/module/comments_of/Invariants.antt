use Rattle.std.proofs.Common.{◌≡◌, ◌++◌, length}
use Rattle.vb_lines.specs.Modules.{comments_of}
use Rattle.vb_lines.proofs.module.comments_of.Given as goal

abbrev pub invariant-loop-rest : goal.invariant-loop-rest
invariant-loop-rest l = l.comments ++ comments_of l.rest ≡ comments_of l.lines

abbrev pub decreases-loop-rest : goal.decreases-loop-rest
decreases-loop-rest l = length l.rest
