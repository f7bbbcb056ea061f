use Rattle.std.proofs.Common.{◌≡◌, drop}
use Rattle.array_bounds.specs.Ranges.{is_split}
use Rattle.array_bounds.proofs.bounds.is_split.Given as goal

abbrev pub invariant-loop-range : goal.invariant-loop-range
invariant-loop-range l = is_split l.row ≡ is_split (drop l.range-index l.row)
