use Rattle.std.proofs.Common.{◌≡◌, map, take}
use Rattle.written_facts.specs.United.{sets_of, shown_list, shown_marks}
use Rattle.written_facts.proofs.marks.lists_of.Given as goal

abbrev pub invariant-loop-m : goal.invariant-loop-m
invariant-loop-m l = map shown_list l.lists.items ≡ map (sets_of l.kind) (map shown_marks (take l.m-index l.marks))
