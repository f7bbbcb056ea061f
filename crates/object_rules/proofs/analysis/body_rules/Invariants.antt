use Rattle.std.proofs.Common.{◌≡◌, map, take}
use Rattle.bound_tree.specs.View.{declarations_of, shown_line}
use Rattle.object_rules.specs.Rows.{line_rules}
use Rattle.object_rules.proofs.analysis.body_rules.Given as goal

abbrev pub invariant-loop-line : goal.invariant-loop-line
invariant-loop-line l = l.sets.items ≡ map (line_rules (declarations_of l.declared)) (map shown_line (take l.line-index l.lines))
