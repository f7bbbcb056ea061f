use Rattle.std.proofs.Common.{◌≡◌, ◌++◌, map, take}
use Rattle.std.specs.List.{flat_map}
use Rattle.vb_tree.specs.View.{redim_item_of}
use Rattle.expression_words.specs.View.{scope_of}
use Rattle.binder.specs.Mentions.{redim_mentions}
use Rattle.binder.proofs.mentions.push_redims.Given as goal

abbrev pub invariant-loop-item : goal.invariant-loop-item
invariant-loop-item l =
    l.to ≡ l.initial.to ++ flat_map (redim_mentions (scope_of l.scope)) (map redim_item_of (take l.item-index l.items))
