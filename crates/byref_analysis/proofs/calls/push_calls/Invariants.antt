use Rattle.std.proofs.Common.{◌≡◌, ◌++◌, map, take}
use Rattle.std.specs.Prelude.{flat_map}
use Rattle.bound_tree.specs.View.{declarations_of, shown}
use Rattle.bound_facts.specs.Calls.{node_calls}
use Rattle.byref_analysis.proofs.calls.push_calls.Given as goal

abbrev pub invariant-loop-e : goal.invariant-loop-e
invariant-loop-e l = l.to.items ≡ l.initial.to.items ++ flat_map (node_calls (declarations_of l.declared) l.i) (map shown (take l.e-index l.nodes))
