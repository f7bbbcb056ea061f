use Rattle.std.proofs.Common.{◌≡◌, ◌++◌, map, drop}
use Rattle.issue_sets.specs.Found.{groups_from}
use Rattle.issue_sets.specs.Places.{items_of}
use Rattle.issue_sets.proofs.found.push_groups.Given as goal

abbrev pub invariant-loop-i : goal.invariant-loop-i
invariant-loop-i l = l.initial.to.items ++ groups_from l.sets 0 (map items_of l.places) ≡ l.to.items ++ groups_from l.sets l.i (map items_of (drop l.i l.places))
