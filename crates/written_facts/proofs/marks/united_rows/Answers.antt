use Rattle.written_facts.proofs.Numbered.{one_more}
use Rattle.written_facts.proofs.marks.united_rows.Goals as goal

pub loop-p-preserved : goal.loop-p-preserved
loop-p-preserved c = one_more _ c.loop-p.p _ _ _ c.in_ok-push.ensures.items c.loop-p.invariant c.in_ok-united_at.ensures
