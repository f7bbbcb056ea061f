use Rattle.std.proofs.Common.{◌≡◌, ◌++◌, [], map, drop}
use Rattle.std.specs.Prelude.{reverse}
use Rattle.bound_tree.specs.View.{declarations_of, shown_line}
use Rattle.error_handlers.specs.Marks.{mark_of}
use Rattle.error_handlers.specs.Walks.{rules_along}
use Rattle.error_handlers.proofs.rows.rules_along.Given as goal

abbrev pub invariant-loop-i : goal.invariant-loop-i
invariant-loop-i l =
    l.sets.items ++ rules_along (declarations_of l.home.declared.now) l.home.kind l.home.resumable (map mark_of l.home.marks.now) l.i (reverse l.heads.items) (map shown_line (drop l.i l.lines))
    ≡ rules_along (declarations_of l.home.declared.now) l.home.kind l.home.resumable (map mark_of l.home.marks.now) 0 [] (map shown_line l.lines)
