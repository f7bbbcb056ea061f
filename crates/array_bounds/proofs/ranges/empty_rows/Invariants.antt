use Rattle.std.proofs.Common.{◌≡◌, ℕ, length, None}
use Rattle.array_bounds.specs.Ranges.{cell}
use Rattle.array_bounds.proofs.ranges.empty_rows.Given as goal

abbrev pub invariant-loop-i : goal.invariant-loop-i
invariant-loop-i l = record {
  len : length l.rows.items ≡ l.i;
  empty : (c d : ℕ) → cell l.rows.items c d ≡ None;
}
