use Rattle.std.proofs.Common.{◌≡◌, map, drop}
use Rattle.std.specs.List.{list_any}
use Rattle.array_bounds.specs.Resizing.{breaks_resize}
use Rattle.array_bounds.specs.Views.{resize_of}
use Rattle.array_bounds.proofs.resizing.breaks_resizes.Given as goal

abbrev pub invariant-loop-r : goal.invariant-loop-r
invariant-loop-r l = list_any (breaks_resize l.preserve) (map resize_of l.resizes) ≡ list_any (breaks_resize l.preserve) (map resize_of (drop l.r-index l.resizes))
