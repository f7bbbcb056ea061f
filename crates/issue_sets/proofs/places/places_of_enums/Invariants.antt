use Rattle.std.proofs.Common.{◌≡◌, map, take}
use Rattle.bound_tree.specs.declared.declared.EnumDecl.{EnumDecl}
use Rattle.issue_sets.proofs.places.places_of_enums.Given as goal

abbrev pub invariant-loop-e : goal.invariant-loop-e
invariant-loop-e l = l.places.items ≡ map (λ (e : EnumDecl). e.place) (take l.e-index l.enums)
