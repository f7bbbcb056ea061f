use Rattle.std.proofs.Common.{◌≡◌, ◌++◌, [], map, drop}
use Rattle.std.specs.Prelude.{reverse}
use Rattle.bound_tree.specs.View.{shown_line}
use Rattle.error_handlers.specs.Marks.{mark_of}
use Rattle.error_handlers.specs.Walks.{marks_along}
use Rattle.error_handlers.proofs.labels.label_marks.Given as goal

abbrev pub invariant-loop-i : goal.invariant-loop-i
invariant-loop-i l =
    map mark_of l.marks.items ++ marks_along l.i (reverse l.heads.items) (map shown_line (drop l.i l.lines)) ≡ marks_along 0 [] (map shown_line l.lines)
