use Rattle.std.proofs.Common.{◌≡◌, map, drop}
use Rattle.expression_words.specs.Flaws.{flaws_after, flaws_of}
use Rattle.expression_words.specs.View.{typed_of}
use Rattle.expression_words.proofs.typed.flaws_of.Given as goal

abbrev pub invariant-loop-item : goal.invariant-loop-item
invariant-loop-item l = flaws_after l.flaw (map typed_of (drop l.item-index l.items)) ≡ flaws_of (map typed_of l.items)
