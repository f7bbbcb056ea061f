use Rattle.std.proofs.Common.{◌≡◌, map, take}
use Rattle.std.specs.List.{fold}
use Rattle.net_tree.specs.View.{case_item_of}
use Rattle.support_text.specs.Noting.{noted}
use Rattle.support_text.specs.Walk.{walk_case}
use Rattle.support_text.proofs.walk.walk_cases.Given as goal

abbrev pub invariant-loop-item : goal.invariant-loop-item
invariant-loop-item l = l.used ≡ fold (walk_case noted) l.initial.used (map case_item_of (take l.item-index l.items))
