use Rattle.std.proofs.Common.{◌≡◌, ◌++◌, map, drop}
use Rattle.bound_tree.specs.View.{exprs_of, shown}
use Rattle.bound_facts.specs.Nodes.{nodes_of_all}
use Rattle.byref_analysis.proofs.order.push_indexes.Given as goal

abbrev pub invariant-loop-e : goal.invariant-loop-e
invariant-loop-e l = map shown l.initial.to.items ++ nodes_of_all (exprs_of l.es) ≡ map shown l.to.items ++ nodes_of_all (exprs_of (drop l.e-index l.es))
