use Rattle.std.proofs.Common.{length}
use Rattle.vb_lines.specs.Parts.{all_parts}
use Rattle.vb_lines.specs.Reading.{HasTaken}
use Rattle.vb_lines.proofs.reading.take_lines.Given as goal

abbrev pub invariant-loop-rest : goal.invariant-loop-rest
invariant-loop-rest l = HasTaken (all_parts l.lines) l.initial.build l.build (all_parts l.rest)

abbrev pub decreases-loop-rest : goal.decreases-loop-rest
decreases-loop-rest l = length l.rest
