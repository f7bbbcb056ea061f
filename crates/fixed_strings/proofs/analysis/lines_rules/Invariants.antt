use Rattle.std.proofs.Common.{◌≡◌, map, take}
use Rattle.bound_tree.specs.Lines.{lines_of}
use Rattle.fixed_strings.specs.Rows.{line_rules}
use Rattle.fixed_strings.proofs.analysis.lines_rules.Given as goal

abbrev pub invariant-loop-body : goal.invariant-loop-body
invariant-loop-body l = l.all.items ≡ map (map (line_rules l.quiet)) (map lines_of (take l.body-index l.lines))
