use Rattle.std.proofs.Common.{◌≡◌, ◌++◌, map, take}
use Rattle.std.specs.List.{flat_map}
use Rattle.vb_tree.specs.View.{bounds_of}
use Rattle.binder.specs.Parts.{bound_parts}
use Rattle.binder.specs.View.{part_of}
use Rattle.binder.proofs.parts.push_bounds.Given as goal

abbrev pub invariant-loop-b : goal.invariant-loop-b
invariant-loop-b l =
    map part_of l.to.items ≡ map part_of l.initial.to.items ++ flat_map bound_parts (map bounds_of (take l.b-index l.bounds))
