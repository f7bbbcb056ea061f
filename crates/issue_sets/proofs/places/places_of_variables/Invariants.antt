use Rattle.std.proofs.Common.{◌≡◌, map, take}
use Rattle.bound_tree.specs.Tree.{Variable}
use Rattle.bound_tree.specs.View.{variable_of}
use Rattle.issue_sets.proofs.places.places_of_variables.Given as goal

abbrev pub invariant-loop-v : goal.invariant-loop-v
invariant-loop-v l = l.places.items ≡ map (λ (v : Variable). v.place) (map variable_of (take l.v-index l.vars))
