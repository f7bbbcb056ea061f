use Rattle.std.proofs.Common.{◌≡◌, ◌++◌, drop}
use Rattle.issue_sets.specs.Found.{issues_from}
use Rattle.issue_sets.proofs.found.push_group.Given as goal

abbrev pub invariant-loop-i : goal.invariant-loop-i
invariant-loop-i l = l.initial.to.items ++ issues_from l.sets 0 l.places ≡ l.to.items ++ issues_from l.sets l.i (drop l.i l.places)
