use Rattle.std.proofs.Common.{◌≡◌, map, take}
use Rattle.bound_tree.specs.View.{shown}
use Rattle.bound_facts.specs.Parts.{Resize}
use Rattle.array_bounds.specs.Views.{resize_of}
use Rattle.array_bounds.proofs.resizes.arrays_of.Given as goal

abbrev pub invariant-loop-r : goal.invariant-loop-r
invariant-loop-r l = map shown l.all.items ≡ map (λ (r : Resize). r.array) (map resize_of (take l.r-index l.resizes))
