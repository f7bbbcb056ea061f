use Rattle.written_members.proofs.Pairs.{joined_end}
use Rattle.written_members.proofs.bodies.joined.Goals as goal

pub returns : goal.returns
returns c = joined_end _ _ c.loop-line.rest.now c.args.lines.now c.loop-line.line-index c.loop-line-test.false c.loop-line.invariant
