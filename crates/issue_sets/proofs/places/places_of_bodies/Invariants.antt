use Rattle.std.proofs.Common.{◌≡◌, map, take}
use Rattle.bound_tree.specs.Lines.{lines_of}
use Rattle.issue_sets.specs.Places.{items_of, line_place}
use Rattle.issue_sets.proofs.places.places_of_bodies.Given as goal

abbrev pub invariant-loop-body : goal.invariant-loop-body
invariant-loop-body l = map items_of l.all.items ≡ map (map line_place) (map lines_of (take l.body-index l.bodies))
