use Rattle.std.proofs.Common.{◌≡◌, ◌++◌, map, drop}
use Rattle.bound_tree.specs.View.{variable_of}
use Rattle.array_bounds.specs.FactsOf.{known_of}
use Rattle.array_bounds.specs.Found.{low_items}
use Rattle.array_bounds.proofs.found.low_items.Given as goal

abbrev pub invariant-loop-k : goal.invariant-loop-k
invariant-loop-k l = l.all.items ++ low_items (known_of l.facts) l.k (map variable_of (drop l.k l.vars)) ≡ low_items (known_of l.facts) 0 (map variable_of l.vars)
