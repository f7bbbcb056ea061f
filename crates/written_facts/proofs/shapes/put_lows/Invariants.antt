use Rattle.std.proofs.Common.{◌≡◌, ℕ, ◌<◌, length, drop}
use Rattle.written_facts.specs.Shapes.{by_entries, low_variable, shape_at, with_low}
use Rattle.written_facts.proofs.shapes.put_lows.Given as goal

abbrev pub invariant-loop-x : goal.invariant-loop-x
invariant-loop-x l = record {
  len : length l.shapes ≡ length l.initial.shapes;
  at : (v : ℕ) → v < length l.initial.shapes
      → by_entries low_variable with_low v (drop l.x-index l.lows) (shape_at l.shapes v) ≡ by_entries low_variable with_low v l.lows (shape_at l.initial.shapes v);
}
