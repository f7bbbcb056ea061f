use Rattle.std.proofs.Common.{◌≡◌, ◌++◌, map, take}
use Rattle.std.specs.Prelude.{flat_map, option_to_list}
use Rattle.bound_tree.specs.View.{shown}
use Rattle.bound_facts.specs.Node.{root, root_variable}
use Rattle.byref_analysis.proofs.touched.push_roots.Given as goal

abbrev pub invariant-loop-e : goal.invariant-loop-e
invariant-loop-e l = l.to.items ≡ l.initial.to.items ++ flat_map (λ e. option_to_list (root_variable (root e))) (map shown (take l.e-index l.stores))
