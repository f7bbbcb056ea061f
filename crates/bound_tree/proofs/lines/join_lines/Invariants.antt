use Rattle.std.proofs.Common.{◌≡◌, ◌++◌, map, drop}
use Rattle.vb_tree.specs.View.{line_of}
use Rattle.bound_tree.specs.View.{joined, shown_line}
use Rattle.bound_tree.proofs.lines.join_lines.Given as goal

abbrev pub invariant-loop-i : goal.invariant-loop-i
invariant-loop-i l =
    map shown_line l.all.items ++ joined l.bound l.i (map (λ x. line_of x.now) (drop l.i l.lines)) ≡ joined l.bound 0 (map (λ x. line_of x.now) l.lines)
