use Rattle.std.proofs.Common.{◌≡◌, ◌++◌, map, take}
use Rattle.std.specs.List.{flat_map}
use Rattle.bound_tree.specs.View.{shown_line}
use Rattle.array_bounds.specs.Locking.{line_elements}
use Rattle.array_bounds.specs.LockTables.{shown_type}
use Rattle.array_bounds.proofs.elements.push_body.Given as goal

abbrev pub invariant-loop-line : goal.invariant-loop-line
invariant-loop-line l = map shown_type l.to.items ≡ map shown_type l.initial.to.items ++ flat_map line_elements (map shown_line (take l.line-index l.lines))
