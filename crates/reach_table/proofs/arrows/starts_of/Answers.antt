use Rattle.std.proofs.Common.{rules, ltb, of_calls}
use Rattle.std.proofs.lemmas.Fn.{always_returns_same}
use Rattle.reach_table.proofs.Runs.{IsPartitionedBy-from_sorted, IsStart-from_point, starts-more}
use Rattle.reach_table.proofs.arrows.starts_of.Goals as goal

pub loop-node-preserved : goal.loop-node-preserved
loop-node-preserved c =
    let node = c.loop-node.node-counter in
    let point = c.partition_point.ensures.partitioned (λ p. ltb p.0 node) (always_returns_same _ _ _ (λ a r f k. search (rules, of_calls))) (IsPartitionedBy-from_sorted c.args.pairs.now node c.requires.sorted) in
    rw c.in_ok-push.ensures.items
    (starts-more c.args.pairs.now c.loop-node.starts.items node c.partition_point.result c.loop-node.invariant.0 c.loop-node.invariant.1 (IsStart-from_point c.args.pairs.now node c.partition_point.result c.partition_point.ensures.bound point))
