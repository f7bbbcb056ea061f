use Rattle.std.proofs.Common.{◌≡◌, map, drop}
use Rattle.expression_words.specs.Flaws.{all_known}
use Rattle.expression_words.specs.View.{typed_of}
use Rattle.expression_words.proofs.typed.all_known.Given as goal

abbrev pub invariant-loop-item : goal.invariant-loop-item
invariant-loop-item l = all_known (map typed_of (drop l.item-index l.items)) ≡ all_known (map typed_of l.items)
