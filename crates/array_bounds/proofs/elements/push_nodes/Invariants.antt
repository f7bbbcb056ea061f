use Rattle.std.proofs.Common.{◌≡◌, ◌++◌, map, take}
use Rattle.std.specs.List.{flat_map}
use Rattle.bound_tree.specs.View.{shown}
use Rattle.bound_facts.specs.Node.{args_at}
use Rattle.array_bounds.specs.Locking.{bound_elements}
use Rattle.array_bounds.specs.LockTables.{shown_type}
use Rattle.array_bounds.proofs.elements.push_nodes.Given as goal

abbrev pub invariant-loop-e : goal.invariant-loop-e
invariant-loop-e l = map shown_type l.to.items ≡ map shown_type l.initial.to.items ++ flat_map (λ e. bound_elements (args_at e)) (map shown (take l.e-index l.nodes))
