use Rattle.std.proofs.Common.{◌≡◌, map, take}
use Rattle.bound_tree.specs.declared.marks.Marks.{Marks}
use Rattle.written_facts.specs.United.{shown_list, shown_marks}
use Rattle.written_facts.proofs.marks.tables_of.Given as goal

abbrev pub invariant-loop-m : goal.invariant-loop-m
invariant-loop-m l = map shown_list l.tables.items ≡ map (λ (m : Marks). m.lines) (map shown_marks (take l.m-index l.marks))
