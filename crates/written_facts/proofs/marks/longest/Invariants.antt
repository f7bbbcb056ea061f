use Rattle.std.proofs.Common.{◌≡◌, map, drop}
use Rattle.written_facts.specs.United.{longest, shown_list}
use Rattle.written_facts.proofs.marks.longest.Given as goal

abbrev pub invariant-loop-i : goal.invariant-loop-i
invariant-loop-i g l = l.count ≡ longest (map shown_list (drop l.i l.lists))
