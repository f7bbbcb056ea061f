use Rattle.std.proofs.Common.{◌≡◌, ◌++◌, map, drop}
use Rattle.bound_tree.specs.View.{variable_of}
use Rattle.array_bounds.specs.FactsOf.{known_of}
use Rattle.array_bounds.specs.Found.{rank_items}
use Rattle.array_bounds.proofs.found.rank_items.Given as goal

abbrev pub invariant-loop-k : goal.invariant-loop-k
invariant-loop-k l = l.all.items ++ rank_items (known_of l.facts) l.k (map variable_of (drop l.k l.vars)) ≡ rank_items (known_of l.facts) 0 (map variable_of l.vars)
