use Rattle.std.proofs.Common.{◌≡◌, ◌++◌, map, drop}
use Rattle.bound_tree.specs.View.{bodies_of}
use Rattle.bound_tree.specs.Lines.{lines_of, bodies_shown}
use Rattle.bound_tree.proofs.lines.join_bodies.Given as goal

abbrev pub invariant-loop-i : goal.invariant-loop-i
invariant-loop-i l =
    map lines_of l.all.items ++ bodies_of l.bodies l.i (map bodies_shown (drop l.i l.procedures)) ≡ bodies_of l.bodies 0 (map bodies_shown l.procedures)
