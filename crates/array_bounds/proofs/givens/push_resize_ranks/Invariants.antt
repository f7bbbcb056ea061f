use Rattle.std.proofs.Common.{◌≡◌, ◌++◌, map, take}
use Rattle.std.specs.List.{flat_map}
use Rattle.bound_tree.specs.View.{declarations_of}
use Rattle.array_bounds.specs.Givens.{resize_ranks}
use Rattle.array_bounds.specs.Views.{resize_of}
use Rattle.array_bounds.proofs.givens.push_resize_ranks.Given as goal

abbrev pub invariant-loop-r : goal.invariant-loop-r
invariant-loop-r l = l.to.items ≡ l.initial.to.items ++ flat_map (resize_ranks (declarations_of l.declared)) (map resize_of (take l.r-index l.resizes))
