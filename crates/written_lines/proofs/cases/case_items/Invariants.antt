use Rattle.std.proofs.Common.{◌≡◌, ◌++◌, map, drop}
use Rattle.vb_tree.specs.View as source
use Rattle.bound_tree.specs.View.{expr_of}
use Rattle.net_tree.specs.View.{case_item_of}
use Rattle.written_trees.specs.Lines.{case_items}
use Rattle.written_rows.specs.View.{scope_of}
use Rattle.written_lines.proofs.cases.case_items.Given as goal

abbrev pub invariant-loop-item : goal.invariant-loop-item
invariant-loop-item l =
    map case_item_of l.all.items ++ case_items (scope_of l.scope) (map source.case_item_of (drop l.item-index l.items)) (map expr_of l.rest)
    ≡ case_items (scope_of l.scope) (map source.case_item_of l.items) (map expr_of l.exprs)
