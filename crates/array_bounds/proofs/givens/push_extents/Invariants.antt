use Rattle.std.proofs.Common.{◌≡◌, ◌++◌, map, drop}
use Rattle.array_bounds.specs.Givens.{extent_lows}
use Rattle.array_bounds.specs.Views.{extent_of}
use Rattle.array_bounds.proofs.givens.push_extents.Given as goal

abbrev pub invariant-loop-d : goal.invariant-loop-d
invariant-loop-d l =
    l.initial.to.items ++ extent_lows l.base l.array 0 (map extent_of l.extents) ≡ l.to.items ++ extent_lows l.base l.array l.d (map extent_of (drop l.d l.extents))
