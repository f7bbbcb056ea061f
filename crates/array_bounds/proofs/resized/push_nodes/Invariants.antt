use Rattle.std.proofs.Common.{◌≡◌, ◌++◌, map, take}
use Rattle.std.specs.List.{flat_map}
use Rattle.bound_tree.specs.View.{procedure_of, shown}
use Rattle.bound_facts.specs.Effects.{node_passes}
use Rattle.array_bounds.proofs.resized.push_nodes.Given as goal

abbrev pub invariant-loop-e : goal.invariant-loop-e
invariant-loop-e l = l.to.items ≡ l.initial.to.items ++ flat_map (node_passes (map procedure_of l.procs)) (map shown (take l.e-index l.nodes))
