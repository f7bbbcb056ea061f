use Rattle.written_members.proofs.Noting.{constants_end, constants_step}
use Rattle.written_members.proofs.statements.noted_constants.Goals as goal

pub loop-i-preserved : goal.loop-i-preserved
loop-i-preserved c = λ file n.
    constants_step c.args.consts.now c.loop-i.i c.index-consts-i.result _ _ _ file n c.loop-i-test.true c.index-consts-i.is (c.loop-i.invariant file n)
    (c.in_ok-note_constant.ensures file n)

pub returns : goal.returns
returns c = λ file n. constants_end c.args.consts.now c.loop-i.i _ _ file n c.loop-i-test.false (c.loop-i.invariant file n)
