use Rattle.std.proofs.Common.{◌≡◌, ◌++◌, map, take}
use Rattle.std.specs.Prelude.{flat_map}
use Rattle.bound_tree.specs.View.{shown}
use Rattle.bound_facts.specs.Effects.{passed_roots}
use Rattle.bound_facts.specs.Node.{args_at}
use Rattle.byref_analysis.proofs.touched.push_all_passed.Given as goal

abbrev pub invariant-loop-e : goal.invariant-loop-e
invariant-loop-e l = l.to.items ≡ l.initial.to.items ++ flat_map (λ e. passed_roots (args_at e)) (map shown (take l.e-index l.nodes))
