use Rattle.std.proofs.Common.{◌≡◌, ℕ, ◌<◌, length, drop}
use Rattle.written_facts.specs.Shapes.{by_entries, rank_variable, shape_at, with_rank}
use Rattle.written_facts.proofs.shapes.put_ranks.Given as goal

abbrev pub invariant-loop-x : goal.invariant-loop-x
invariant-loop-x l = record {
  len : length l.shapes ≡ length l.initial.shapes;
  at : (v : ℕ) → v < length l.initial.shapes
      → by_entries rank_variable with_rank v (drop l.x-index l.ranks) (shape_at l.shapes v) ≡ by_entries rank_variable with_rank v l.ranks (shape_at l.initial.shapes v);
}
