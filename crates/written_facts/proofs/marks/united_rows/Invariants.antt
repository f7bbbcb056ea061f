use Rattle.std.proofs.Common.{◌≡◌, ℕ, map}
use Rattle.std.specs.List.{range_with_len}
use Rattle.written_facts.specs.United.{lists_at, shown_list, united}
use Rattle.written_facts.proofs.marks.united_rows.Given as goal

abbrev pub invariant-loop-p : goal.invariant-loop-p
invariant-loop-p l = l.rows.items ≡ map (λ (p : ℕ). united (lists_at (map shown_list l.tables) p)) (range_with_len 0 l.p)
