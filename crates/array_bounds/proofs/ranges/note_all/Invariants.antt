use Rattle.std.proofs.Common.{ℕ, take}
use Rattle.array_bounds.specs.Givens.{at_dimension}
use Rattle.array_bounds.specs.Ranges.{ClassNumber, RangeIs, cell}
use Rattle.array_bounds.proofs.ranges.note_all.Given as goal

abbrev pub invariant-loop-g : goal.invariant-loop-g
invariant-loop-g l = (c d : ℕ) → RangeIs (ClassNumber l.classes (at_dimension d (take l.g-index l.givens)) c) (cell l.table c d)
