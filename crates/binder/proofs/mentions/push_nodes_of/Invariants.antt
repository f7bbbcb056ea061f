use Rattle.std.proofs.Common.{◌≡◌, ◌++◌, map, take}
use Rattle.std.specs.List.{flat_map}
use Rattle.bound_tree.specs.View.{declarations_of, shown}
use Rattle.binder.specs.Mentions.{node_mentions}
use Rattle.binder.proofs.mentions.push_nodes_of.Given as goal

abbrev pub invariant-loop-e : goal.invariant-loop-e
invariant-loop-e l =
    l.to ≡ l.initial.to ++ flat_map (node_mentions (declarations_of l.declared)) (map shown (take l.e-index l.nodes))
