use Rattle.std.proofs.Common.{◌≡◌, ◌++◌, map, take}
use Rattle.std.specs.List.{flat_map}
use Rattle.bound_tree.specs.View.{declarations_of}
use Rattle.expression_words.specs.View.{typed_of}
use Rattle.binder.specs.Mentions.{typed_mentions}
use Rattle.binder.proofs.mentions.push_all.Given as goal

abbrev pub invariant-loop-t : goal.invariant-loop-t
invariant-loop-t l =
    l.to ≡ l.initial.to ++ flat_map (typed_mentions (declarations_of l.declared)) (map typed_of (take l.t-index l.typed))
