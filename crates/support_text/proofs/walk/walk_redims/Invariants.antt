use Rattle.std.proofs.Common.{◌≡◌, map, take}
use Rattle.std.specs.List.{fold}
use Rattle.net_tree.specs.View.{redim_item_of}
use Rattle.support_text.specs.Noting.{noted}
use Rattle.support_text.specs.Walk.{walk_redim}
use Rattle.support_text.proofs.walk.walk_redims.Given as goal

abbrev pub invariant-loop-item : goal.invariant-loop-item
invariant-loop-item l = l.used ≡ fold (walk_redim noted) l.initial.used (map redim_item_of (take l.item-index l.items))
