use Rattle.std.proofs.Common.{◌≡◌, map, drop}
use Rattle.std.specs.List.{list_all}
use Rattle.bound_tree.specs.View.{shown}
use Rattle.bound_facts.proofs.any.all_of.Given as goal

abbrev pub invariant-loop-e : goal.invariant-loop-e
invariant-loop-e g l = list_all (g.T.NodeTest.test l.t) (map shown l.nodes) ≡ list_all (g.T.NodeTest.test l.t) (map shown (drop l.e-index l.nodes))
