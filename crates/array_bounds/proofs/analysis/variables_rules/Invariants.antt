use Rattle.std.proofs.Common.{◌≡◌, ◌++◌, map, drop}
use Rattle.bound_tree.specs.View.{variable_of}
use Rattle.array_bounds.specs.FactsOf.{known_of}
use Rattle.array_bounds.specs.Rows.{variables_rules}
use Rattle.array_bounds.proofs.analysis.variables_rules.Given as goal

abbrev pub invariant-loop-k : goal.invariant-loop-k
invariant-loop-k l = l.sets.items ++ variables_rules (known_of l.facts) l.k (map variable_of (drop l.k l.vars)) ≡ variables_rules (known_of l.facts) 0 (map variable_of l.vars)
