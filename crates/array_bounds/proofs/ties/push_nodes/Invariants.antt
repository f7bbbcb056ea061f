use Rattle.std.proofs.Common.{◌≡◌, ◌++◌, map, take}
use Rattle.std.specs.List.{flat_map}
use Rattle.bound_tree.specs.View.{declarations_of, shown}
use Rattle.bound_facts.specs.Bounds.{node_ties}
use Rattle.array_bounds.proofs.ties.push_nodes.Given as goal

abbrev pub invariant-loop-e : goal.invariant-loop-e
invariant-loop-e l = l.to.items ≡ l.initial.to.items ++ flat_map (node_ties (declarations_of l.declared)) (map shown (take l.e-index l.nodes))
