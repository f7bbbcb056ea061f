use Rattle.std.proofs.Common.{◌≡◌, ◌++◌, map, drop}
use Rattle.std.specs.Prelude.{flat_map}
use Rattle.vb_tree.specs.View.{redim_item_of}
use Rattle.bound_tree.specs.View.{expr_of, shown}
use Rattle.bound_facts.specs.Nodes.{nodes}
use Rattle.byref_analysis.specs.Lines.{bounds_in}
use Rattle.byref_analysis.proofs.lines.push_bounds.Given as goal

abbrev pub invariant-loop-item : goal.invariant-loop-item
invariant-loop-item l =
    map shown l.initial.to.items ++ flat_map nodes (bounds_in (map redim_item_of l.items) (map expr_of l.fn.exprs))
    ≡ map shown l.to.items ++ flat_map nodes (bounds_in (map redim_item_of (drop l.item-index l.items)) (map expr_of l.rest))
