use Rattle.std.proofs.Common.{◌≡◌, map, take}
use Rattle.bound_tree.specs.Lines.{lines_of}
use Rattle.bound_tree.specs.View.{declarations_of}
use Rattle.array_bounds.specs.FactsOf.{known_of}
use Rattle.array_bounds.specs.Rows.{line_rules}
use Rattle.array_bounds.proofs.analysis.lines_rules.Given as goal

abbrev pub invariant-loop-body : goal.invariant-loop-body
invariant-loop-body l = l.all.items ≡ map (map (line_rules (declarations_of l.facts.declared.now) (known_of l.facts))) (map lines_of (take l.body-index l.lines))
