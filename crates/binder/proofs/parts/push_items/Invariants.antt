use Rattle.std.proofs.Common.{◌≡◌, ◌++◌, map, take}
use Rattle.std.specs.List.{flat_map}
use Rattle.vb_tree.specs.View.{case_item_of}
use Rattle.binder.specs.Parts.{case_parts}
use Rattle.binder.specs.View.{part_of}
use Rattle.binder.proofs.parts.push_items.Given as goal

abbrev pub invariant-loop-item : goal.invariant-loop-item
invariant-loop-item l =
    map part_of l.to.items ≡ map part_of l.initial.to.items ++ flat_map case_parts (map case_item_of (take l.item-index l.items))
