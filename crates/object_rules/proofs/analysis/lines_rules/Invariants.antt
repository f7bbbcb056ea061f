use Rattle.std.proofs.Common.{◌≡◌, map, take}
use Rattle.bound_tree.specs.Lines.{lines_of}
use Rattle.bound_tree.specs.View.{declarations_of}
use Rattle.object_rules.specs.Rows.{line_rules}
use Rattle.object_rules.proofs.analysis.lines_rules.Given as goal

abbrev pub invariant-loop-body : goal.invariant-loop-body
invariant-loop-body l = l.all.items ≡ map (map (line_rules (declarations_of l.declared))) (map lines_of (take l.body-index l.lines))
