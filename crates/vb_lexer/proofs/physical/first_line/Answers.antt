use Rattle.vb_lexer.proofs.PhysicalLines.{first_line, line_taken, line_joints}
use Rattle.vb_lexer.proofs.physical.first_line.Goals as goal

pub returns-clause-first : goal.returns-clause-first
returns-clause-first c = rw (c.line_end_units_at-end.ensures.count, c.line_units-units.ensures.count) (first_line c.args.text.now c.requires)

pub returns-clause-some : goal.returns-clause-some
returns-clause-some c = rw (c.line_end_units_at-end.ensures.count, c.line_units-units.ensures.count) (line_taken c.args.text.now c.requires)

pub returns-clause-unjoined : goal.returns-clause-unjoined
returns-clause-unjoined c = rw c.line_units-units.ensures.count (line_joints c.args.text.now)
