use Rattle.std.proofs.Common.{◌≡◌, drop}
use Rattle.bound_tree.specs.RuleSets.{first, has}
use Rattle.written_lines.proofs.flagged.replaced_by.Given as goal

abbrev pub invariant-loop-rule : goal.invariant-loop-rule
invariant-loop-rule l = first (has l.rules) l.rule-items ≡ first (has l.rules) (drop l.rule-index l.rule-items)
