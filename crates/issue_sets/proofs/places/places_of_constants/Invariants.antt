use Rattle.std.proofs.Common.{◌≡◌, map, take}
use Rattle.bound_tree.specs.Tree.{Constant}
use Rattle.bound_tree.specs.View.{constant_of}
use Rattle.issue_sets.proofs.places.places_of_constants.Given as goal

abbrev pub invariant-loop-c : goal.invariant-loop-c
invariant-loop-c l = l.places.items ≡ map (λ (c : Constant). c.place) (map constant_of (take l.c-index l.consts))
