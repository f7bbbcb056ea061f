use Rattle.std.proofs.Common.{◌≡◌, map, drop}
use Rattle.std.specs.List.{list_any}
use Rattle.bound_tree.specs.View.{declarations_of, shown}
use Rattle.array_bounds.specs.Elements.{breaks_node}
use Rattle.array_bounds.specs.FactsOf.{known_of}
use Rattle.array_bounds.proofs.misfits.breaks_nodes.Given as goal

abbrev pub invariant-loop-e : goal.invariant-loop-e
invariant-loop-e l =
    list_any (breaks_node (declarations_of l.facts.declared.now) (known_of l.facts)) (map shown l.nodes)
    ≡ list_any (breaks_node (declarations_of l.facts.declared.now) (known_of l.facts)) (map shown (drop l.e-index l.nodes))
