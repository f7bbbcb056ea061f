use Rattle.std.proofs.Common.{◌≡◌, ◌++◌, map, drop}
use Rattle.vb_tree.specs.View.{bounds_of}
use Rattle.bound_tree.specs.View.{expr_of}
use Rattle.bound_facts.specs.Parts.{extents}
use Rattle.array_bounds.specs.Views.{extent_of}
use Rattle.array_bounds.proofs.resizes.extents.Given as goal

abbrev pub invariant-loop-b : goal.invariant-loop-b
invariant-loop-b l =
    map extent_of l.all.items ++ extents (map bounds_of (drop l.b-index l.bounds)) (map expr_of l.rest) ≡ extents (map bounds_of l.bounds) (map expr_of l.exprs)
