use Rattle.std.proofs.Common.{◌≡◌, ◌++◌, map, drop}
use Rattle.bound_tree.specs.Lines.{lines_of}
use Rattle.bound_tree.specs.View.{declarations_of}
use Rattle.error_handlers.specs.Rows.{bodies_rules}
use Rattle.error_handlers.proofs.rows.bodies_rules.Given as goal

abbrev pub invariant-loop-i : goal.invariant-loop-i
invariant-loop-i l =
    l.all.items ++ bodies_rules (declarations_of l.declared) l.i (map lines_of (drop l.i l.lines)) ≡ bodies_rules (declarations_of l.declared) 0 (map lines_of l.lines)
