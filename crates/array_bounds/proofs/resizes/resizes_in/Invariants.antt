use Rattle.std.proofs.Common.{◌≡◌, ◌++◌, map, drop}
use Rattle.vb_tree.specs.View.{redim_item_of}
use Rattle.bound_tree.specs.View.{expr_of}
use Rattle.bound_facts.specs.Parts.{resizes}
use Rattle.array_bounds.specs.Views.{resize_of}
use Rattle.array_bounds.proofs.resizes.resizes_in.Given as goal

abbrev pub invariant-loop-item : goal.invariant-loop-item
invariant-loop-item l =
    map resize_of l.all.items ++ resizes (map redim_item_of (drop l.item-index l.items)) (map expr_of l.rest) ≡ resizes (map redim_item_of l.items) (map expr_of l.exprs)
