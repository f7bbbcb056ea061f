use Rattle.std.proofs.Common.{◌≡◌, map, take}
use Rattle.bound_tree.specs.View.{shown_line}
use Rattle.issue_sets.specs.Places.{line_place}
use Rattle.issue_sets.proofs.places.places_of_body.Given as goal

abbrev pub invariant-loop-line : goal.invariant-loop-line
invariant-loop-line l = l.places.items ≡ map line_place (map shown_line (take l.line-index l.lines))
