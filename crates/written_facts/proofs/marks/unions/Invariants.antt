use Rattle.std.proofs.Common.{◌≡◌, map}
use Rattle.std.specs.List.{range_with_len}
use Rattle.written_facts.specs.United.{shown_list, union_at}
use Rattle.written_facts.proofs.marks.unions.Given as goal

abbrev pub invariant-loop-k : goal.invariant-loop-k
invariant-loop-k l = l.sets.items ≡ map (union_at (map shown_list l.lists)) (range_with_len 0 l.k)
