use Rattle.std.proofs.Common.{◌≡◌, map, take}
use Rattle.bound_tree.specs.Tree.{Procedure}
use Rattle.bound_tree.specs.View.{procedure_of}
use Rattle.issue_sets.proofs.places.places_of_heads.Given as goal

abbrev pub invariant-loop-p : goal.invariant-loop-p
invariant-loop-p l = l.places.items ≡ map (λ (p : Procedure). p.place) (map procedure_of (take l.p-index l.procs))
