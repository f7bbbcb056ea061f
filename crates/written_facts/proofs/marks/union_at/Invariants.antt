use Rattle.std.proofs.Common.{◌≡◌, map, drop}
use Rattle.written_facts.specs.United.{shown_list, union_at}
use Rattle.written_facts.proofs.marks.union_at.Given as goal

abbrev pub invariant-loop-i : goal.invariant-loop-i
invariant-loop-i l = l.all ≡ union_at (map shown_list (drop l.i l.lists)) l.k
