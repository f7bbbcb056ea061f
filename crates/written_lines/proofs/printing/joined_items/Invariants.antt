use Rattle.std.proofs.Common.{◌≡◌, drop, map}
use Rattle.bound_tree.specs.View.{expr_of}
use Rattle.net_tree.specs.View.{exp_of}
use Rattle.written_trees.specs.Lines.{joined_items}
use Rattle.written_rows.specs.View.{scope_of}
use Rattle.written_lines.proofs.printing.joined_items.Given as goal

abbrev pub invariant-loop-e : goal.invariant-loop-e
invariant-loop-e l =
    joined_items (scope_of l.scope) (exp_of l.initial.so_far) (map expr_of l.items)
    ≡ joined_items (scope_of l.scope) (exp_of l.so_far) (map expr_of (drop l.e-index l.items))
