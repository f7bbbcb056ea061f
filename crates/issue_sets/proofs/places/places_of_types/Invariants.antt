use Rattle.std.proofs.Common.{◌≡◌, map, take}
use Rattle.bound_tree.specs.declared.declared.TypeDecl.{TypeDecl}
use Rattle.issue_sets.proofs.places.places_of_types.Given as goal

abbrev pub invariant-loop-t : goal.invariant-loop-t
invariant-loop-t l = l.places.items ≡ map (λ (t : TypeDecl). t.place) (take l.t-index l.types)
