use Rattle.std.proofs.Common.{rules}
use Rattle.reach_table.proofs.Nodes.{IsMarkedList-new}
use Rattle.reach_table.proofs.worklist.Worklist.new.Goals as goal

pub invariant_of-result : goal.invariant_of-result
invariant_of-result c = rw (c.in_ok-vec.ensures.items_if_clones_equal (λ y h. search rules), c.new.ensures.items) (IsMarkedList-new c.args.limit)
