use Rattle.std.proofs.Common.{◌≡◌, ◌++◌, map, take}
use Rattle.std.specs.Prelude.{filter}
use Rattle.bound_tree.specs.View.{shown}
use Rattle.bound_facts.proofs.any.push_those.Given as goal

abbrev pub invariant-loop-e : goal.invariant-loop-e
invariant-loop-e g l = map shown l.to.items ≡ map shown l.initial.to.items ++ filter (g.T.NodeTest.test l.t) (map shown (take l.e-index l.nodes))
