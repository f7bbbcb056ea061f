use Rattle.written_members.proofs.Noting.{variables_end, variables_step}
use Rattle.written_members.proofs.statements.noted_variables.Goals as goal

pub loop-i-preserved : goal.loop-i-preserved
loop-i-preserved c = λ file n.
    variables_step c.args.vars.now c.loop-i.i c.index-vars-i.result _ _ _ file n c.loop-i-test.true c.index-vars-i.is (c.loop-i.invariant file n)
    (c.in_ok-note_variable.ensures file n)

pub returns : goal.returns
returns c = λ file n. variables_end c.args.vars.now c.loop-i.i _ _ file n c.loop-i-test.false (c.loop-i.invariant file n)
