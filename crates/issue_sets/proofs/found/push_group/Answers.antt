use Rattle.issue_sets.proofs.Steps.{issues_next}
use Rattle.issue_sets.proofs.found.push_group.Goals as goal

pub loop-i-preserved : goal.loop-i-preserved
loop-i-preserved c =
    issues_next c.args.sets.now c.args.places.now c.loop-i.i _ c.set_at.result _ c.loop-i.to.items c.push_at.new.to.items c.loop-i.invariant c.loop-i-test.true c.set_at.ensures c.in_ok-push_at.ensures
