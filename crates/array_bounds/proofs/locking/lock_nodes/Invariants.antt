use Rattle.std.proofs.Common.{◌≡◌, map, drop}
use Rattle.std.specs.List.{list_any}
use Rattle.bound_tree.specs.View.{declarations_of, shown}
use Rattle.bound_facts.specs.Node.{args_at, called}
use Rattle.array_bounds.specs.FactsOf.{known_of}
use Rattle.array_bounds.specs.Locking.{locks_by}
use Rattle.array_bounds.proofs.locking.lock_nodes.Given as goal

abbrev pub invariant-loop-e : goal.invariant-loop-e
invariant-loop-e l =
    list_any (λ e. locks_by (declarations_of l.facts.declared.now) (known_of l.facts) (called e) (args_at e)) (map shown l.nodes)
    ≡ list_any (λ e. locks_by (declarations_of l.facts.declared.now) (known_of l.facts) (called e) (args_at e)) (map shown (drop l.e-index l.nodes))
