use Rattle.std.proofs.Common.{◌≡◌, ◌++◌, map, drop}
use Rattle.bound_tree.specs.View.{exprs_of, passed_of, shown}
use Rattle.bound_facts.specs.Nodes.{nodes_of_all, nodes_of_passed}
use Rattle.bound_facts.proofs.nodes.+nodes.Given as goal

abbrev pub invariant-push_all-loop-e : goal.invariant-push_all-loop-e
invariant-push_all-loop-e l =
    map shown l.initial.to.items ++ nodes_of_all (exprs_of l.es) ≡ map shown l.to.items ++ nodes_of_all (exprs_of (drop l.e-index l.es))

abbrev pub invariant-push_passed-loop-arg : goal.invariant-push_passed-loop-arg
invariant-push_passed-loop-arg l =
    map shown l.initial.to.items ++ nodes_of_passed (passed_of l.args) ≡ map shown l.to.items ++ nodes_of_passed (passed_of (drop l.arg-index l.args))
