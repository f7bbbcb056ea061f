use Rattle.std.proofs.Common.{◌≡◌, map, take}
use Rattle.written_facts.specs.United.{lists_at, shown_list}
use Rattle.written_facts.proofs.marks.lists_at.Given as goal

abbrev pub invariant-loop-t : goal.invariant-loop-t
invariant-loop-t l = map shown_list l.lists.items ≡ lists_at (map shown_list (take l.t-index l.tables)) l.p
