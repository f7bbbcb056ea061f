use Rattle.std.proofs.Common.{◌≡◌, ◌++◌, map, take}
use Rattle.std.specs.Prelude.{option_to_list}
use Rattle.std.specs.List.{flat_map}
use Rattle.bound_tree.specs.View.{shown}
use Rattle.bound_facts.specs.Effects.{resized_variable}
use Rattle.array_bounds.proofs.resized.push_resized.Given as goal

abbrev pub invariant-loop-e : goal.invariant-loop-e
invariant-loop-e l = l.to.items ≡ l.initial.to.items ++ flat_map (λ e. option_to_list (resized_variable e)) (map shown (take l.e-index l.stores))
