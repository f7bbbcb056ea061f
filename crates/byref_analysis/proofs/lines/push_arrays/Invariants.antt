use Rattle.std.proofs.Common.{◌≡◌, ◌++◌, map, drop}
use Rattle.vb_tree.specs.View.{redim_item_of}
use Rattle.bound_tree.specs.View.{expr_of, shown}
use Rattle.byref_analysis.specs.Lines.{arrays_in}
use Rattle.byref_analysis.proofs.lines.push_arrays.Given as goal

abbrev pub invariant-loop-item : goal.invariant-loop-item
invariant-loop-item l =
    map shown l.initial.to.items ++ arrays_in (map redim_item_of l.items) (map expr_of l.fn.exprs)
    ≡ map shown l.to.items ++ arrays_in (map redim_item_of (drop l.item-index l.items)) (map expr_of l.rest)
