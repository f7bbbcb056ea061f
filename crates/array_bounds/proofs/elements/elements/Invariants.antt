use Rattle.std.proofs.Common.{◌≡◌, map, take}
use Rattle.std.specs.List.{flat_map}
use Rattle.bound_tree.specs.Lines.{lines_of}
use Rattle.array_bounds.specs.Locking.{line_elements}
use Rattle.array_bounds.specs.LockTables.{shown_type}
use Rattle.array_bounds.proofs.elements.elements.Given as goal

abbrev pub invariant-loop-body : goal.invariant-loop-body
invariant-loop-body l = map shown_type l.all.items ≡ flat_map (flat_map line_elements) (map lines_of (take l.body-index l.lines))
