use Rattle.std.proofs.Common.{◌≡◌, map, take}
use Rattle.net_tree.specs.View.{redim_item_of}
use Rattle.array_bounds.specs.Views.{resize_of}
use Rattle.written_trees.specs.Lines.{resized_array}
use Rattle.written_rows.specs.View.{scope_of}
use Rattle.written_lines.proofs.resizing.resized_arrays.Given as goal

abbrev pub invariant-loop-resize : goal.invariant-loop-resize
invariant-loop-resize l =
    map redim_item_of l.all.items ≡ map (resized_array (scope_of l.scope)) (map resize_of (take l.resize-index l.resizes))
