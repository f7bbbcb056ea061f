use Rattle.written_facts.proofs.Numbered.{one_more}
use Rattle.written_facts.proofs.marks.unions.Goals as goal

pub loop-k-preserved : goal.loop-k-preserved
loop-k-preserved c = one_more _ c.loop-k.k _ _ _ c.in_ok-push.ensures.items c.loop-k.invariant c.union_at.ensures
