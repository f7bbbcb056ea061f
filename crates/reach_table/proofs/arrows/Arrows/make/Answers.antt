use Rattle.std.proofs.Common.{arith}
use Rattle.reach_table.specs.Table.{IsBelow}
use Rattle.reach_table.proofs.Runs.{All-from_Contains}
use Rattle.reach_table.proofs.arrows.Arrows.make.Goals as goal

pub invariant_of-result : goal.invariant_of-result
invariant_of-result c = record {
  table = record {
    sorted = c.in_ok-pairs.ensures.sorted;
    below = All-from_Contains (IsBelow c.args.nodes) c.args.pairs.now _ (λ p. (c.in_ok-pairs.ensures.pairs p).0) c.requires.below;
    few = omega (arith, c.in_ok-pairs.ensures.few);
  };
  index = rw c.deref.ensures.value at c.in_ok-starts.ensures;
}
