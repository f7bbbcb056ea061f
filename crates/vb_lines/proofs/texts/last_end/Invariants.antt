use Rattle.std.proofs.Common.{◌≡◌, length}
use Rattle.vb_lines.specs.Parts.{last_end}
use Rattle.vb_lines.proofs.texts.last_end.Given as goal

abbrev pub invariant-loop-rest : goal.invariant-loop-rest
invariant-loop-rest l = last_end l.end l.rest ≡ last_end l.fn.end l.tokens

abbrev pub decreases-loop-rest : goal.decreases-loop-rest
decreases-loop-rest l = length l.rest
