use Rattle.std.proofs.Common.{◌≡◌, ◌++◌, map, take}
use Rattle.std.specs.List.{flat_map}
use Rattle.bound_tree.specs.View.{expr_of, shown}
use Rattle.bound_facts.specs.Nodes.{nodes}
use Rattle.clean_procedures.proofs.uses.push_all.Given as goal

abbrev pub invariant-loop-e : goal.invariant-loop-e
invariant-loop-e l = map shown l.to.items ≡ map shown l.initial.to.items ++ flat_map nodes (map expr_of (take l.e-index l.es))
