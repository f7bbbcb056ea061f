use Rattle.std.proofs.Common.{◌≡◌, ◌++◌, map, take}
use Rattle.issue_sets.specs.Found.{all_issues}
use Rattle.issue_sets.specs.Places.{shown_marks, shown_places}
use Rattle.issue_sets.proofs.found.push_all.Given as goal

abbrev pub invariant-loop-one : goal.invariant-loop-one
invariant-loop-one l = l.to.items ≡ l.initial.to.items ++ all_issues (shown_places l.places) (map shown_marks (take l.one-index l.marks))
