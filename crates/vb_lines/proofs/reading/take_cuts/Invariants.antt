use Rattle.std.proofs.Common.{length}
use Rattle.vb_lines.specs.Cuts.{cuts_of}
use Rattle.vb_lines.specs.Parts.{parts_at}
use Rattle.vb_lines.specs.Reading.{HasTaken}
use Rattle.vb_lines.proofs.reading.take_cuts.Given as goal

abbrev pub invariant-loop-rest : goal.invariant-loop-rest
invariant-loop-rest l = HasTaken (parts_at l.place l.text (cuts_of l.cuts)) l.initial.build l.build (parts_at l.place l.text (cuts_of l.rest))

abbrev pub decreases-loop-rest : goal.decreases-loop-rest
decreases-loop-rest l = length l.rest
