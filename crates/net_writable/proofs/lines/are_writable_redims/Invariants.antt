use Rattle.std.proofs.Common.{◌≡◌, drop, map}
use Rattle.std.specs.List.{list_all}
use Rattle.net_tree.specs.Lines.{is_writable_redim}
use Rattle.net_tree.specs.View.{redim_item_of}
use Rattle.net_writable.proofs.lines.are_writable_redims.Given as goal

abbrev pub invariant-loop-item : goal.invariant-loop-item
invariant-loop-item l = list_all is_writable_redim (map redim_item_of l.items) ≡ list_all is_writable_redim (map redim_item_of (drop l.item-index l.items))
