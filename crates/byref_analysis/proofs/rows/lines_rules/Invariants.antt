use Rattle.std.proofs.Common.{◌≡◌, map, take}
use Rattle.bound_tree.specs.Lines.{lines_of}
use Rattle.bound_tree.specs.View.{declarations_of}
use Rattle.byref_analysis.specs.FactsOf.{quiet_by, stirs_by}
use Rattle.byref_analysis.specs.Rows.{rules_of}
use Rattle.byref_analysis.proofs.rows.lines_rules.Given as goal

abbrev pub invariant-loop-body : goal.invariant-loop-body
invariant-loop-body l =
    l.all.items ≡ map (map (rules_of (declarations_of l.stirring.declared.now) (quiet_by l.stirring.declared.now l.stirring.facts.now) (stirs_by l.stirring))) (map lines_of (take l.body-index l.lines))
