use Rattle.std.proofs.Common.{◌≡◌, ◌++◌, map, take}
use Rattle.std.specs.Prelude.{filter}
use Rattle.bound_tree.specs.RuleSets.{has}
use Rattle.issue_sets.specs.Found.{issue_at}
use Rattle.issue_sets.proofs.found.push_set.Given as goal

abbrev pub invariant-loop-rule : goal.invariant-loop-rule
invariant-loop-rule l = l.to.items ≡ l.initial.to.items ++ map (issue_at l.place) (filter (has l.set) (take l.rule-index l.rule-items))
