use Rattle.std.proofs.Common.{◌≡◌, map, drop}
use Rattle.std.specs.List.{list_any}
use Rattle.bound_tree.specs.View.{shown}
use Rattle.bound_facts.proofs.any.any_of.Given as goal

abbrev pub invariant-loop-e : goal.invariant-loop-e
invariant-loop-e g l = list_any (g.T.NodeTest.test l.t) (map shown l.nodes) ≡ list_any (g.T.NodeTest.test l.t) (map shown (drop l.e-index l.nodes))
