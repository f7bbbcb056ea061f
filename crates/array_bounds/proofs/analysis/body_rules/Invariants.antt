use Rattle.std.proofs.Common.{◌≡◌, map, take}
use Rattle.bound_tree.specs.View.{declarations_of, shown_line}
use Rattle.array_bounds.specs.FactsOf.{known_of}
use Rattle.array_bounds.specs.Rows.{line_rules}
use Rattle.array_bounds.proofs.analysis.body_rules.Given as goal

abbrev pub invariant-loop-line : goal.invariant-loop-line
invariant-loop-line l = l.sets.items ≡ map (line_rules (declarations_of l.facts.declared.now) (known_of l.facts)) (map shown_line (take l.line-index l.lines))
