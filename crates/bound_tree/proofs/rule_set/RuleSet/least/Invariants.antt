use Rattle.std.proofs.Common.{◌≡◌, drop}
use Rattle.bound_tree.specs.RuleSets.{has, first}
use Rattle.bound_tree.proofs.rule_set.RuleSet.least.Given as goal

abbrev pub invariant-loop-rule : goal.invariant-loop-rule
invariant-loop-rule l = first (has l.self) l.rule-items ≡ first (has l.self) (drop l.rule-index l.rule-items)
