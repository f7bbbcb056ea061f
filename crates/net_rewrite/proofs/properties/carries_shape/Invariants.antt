use Rattle.std.proofs.Common.{◌≡◌, map, drop}
use Rattle.bound_tree.specs.View.{procedure_of}
use Rattle.written_trees.specs.Properties.{carries_shape}
use Rattle.written_rows.specs.View.{facts_of}
use Rattle.net_rewrite.proofs.properties.carries_shape.Given as goal

abbrev pub invariant-loop-k : goal.invariant-loop-k
invariant-loop-k l =
    carries_shape (facts_of l.facts) l.first 0 (map procedure_of l.procs) ≡ carries_shape (facts_of l.facts) l.first l.k (map procedure_of (drop l.k l.procs))
