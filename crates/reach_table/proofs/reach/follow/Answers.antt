use Rattle.std.proofs.Common.{arith}
use Rattle.std.specs.List.{Contains}
use Rattle.reach_table.proofs.Nodes.{GrowsBy-with}
use Rattle.reach_table.proofs.Following.{Contains-at, HasNext-from_run, ReachesFrom-more}
use Rattle.reach_table.proofs.reach.follow.Goals as goal

pub loop-k-preserved : goal.loop-k-preserved
loop-k-preserved g c =
    let pairs = c.args.arrows.now.pairs in
    let leads = Contains-at pairs c.args.node _ _ c.loop-k.k c.at-next.result c.run_of-first.ensures.run (omega arith) (omega arith) c.at-next.ensures.pair in
    record {
      grows = GrowsBy-with (λ next. Contains pairs (c.args.node, next)) _ c.loop-k.list c.insert.new.self c.at-next.result.1 c.loop-k.invariant.grows c.in_ok-insert.ensures.ok leads;
      reached = ReachesFrom-more pairs c.loop-k.list c.insert.new.self _ c.loop-k.k c.at-next.result c.at-next.ensures.pair c.in_ok-insert.ensures.ok c.loop-k.invariant.reached;
      reads = omega (arith, c.at-next.ensures.step);
    }

pub returns-clause-followed : goal.returns-clause-followed
returns-clause-followed g c =
    HasNext-from_run c.args.arrows.now.pairs c.loop-k.list.nodes c.args.node _ _ c.loop-k.k c.run_of-first.ensures.run c.loop-k-test.false c.loop-k.invariant.reached
