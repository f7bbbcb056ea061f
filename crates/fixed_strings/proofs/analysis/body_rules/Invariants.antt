use Rattle.std.proofs.Common.{◌≡◌, map, take}
use Rattle.bound_tree.specs.View.{shown_line}
use Rattle.fixed_strings.specs.Rows.{line_rules}
use Rattle.fixed_strings.proofs.analysis.body_rules.Given as goal

abbrev pub invariant-loop-line : goal.invariant-loop-line
invariant-loop-line l = l.sets.items ≡ map (line_rules l.quiet) (map shown_line (take l.line-index l.lines))
