use Rattle.reach_table.proofs.Reaching.{Spread-from_followed}
use Rattle.reach_table.proofs.reach.spread.Goals as goal

pub returns-clause-spread : goal.returns-clause-spread
returns-clause-spread g c node =
    rw (c.into_marks.ensures.marks node) (Spread-from_followed c.args.arrows.now.pairs c.args.marked.now c.in_ok-list.list c.follow_all.new.list c.in_ok-list.ensures.nodes c.follow_all.ensures.grows c.in_ok-follow_all.ensures.followed node)
