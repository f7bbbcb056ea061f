use Rattle.std.proofs.Common.{◌≡◌, map, take}
use Rattle.bound_tree.specs.View.{declarations_of, shown_line}
use Rattle.byref_analysis.specs.FactsOf.{quiet_by, stirs_by}
use Rattle.byref_analysis.specs.Rows.{rules_of}
use Rattle.byref_analysis.proofs.rows.body_rules.Given as goal

abbrev pub invariant-loop-line : goal.invariant-loop-line
invariant-loop-line l =
    l.sets.items ≡ map (rules_of (declarations_of l.stirring.declared.now) (quiet_by l.stirring.declared.now l.stirring.facts.now) (stirs_by l.stirring)) (map shown_line (take l.line-index l.lines))
