use Rattle.std.proofs.Common.{◌≡◌, map}
use Rattle.expression_words.specs.Flaws.{exprs_in}
use Rattle.expression_words.specs.View.{exprs_before, typed_of}
use Rattle.expression_words.proofs.typed.exprs_in.Given as goal

abbrev pub invariant-loop-item : goal.invariant-loop-item
invariant-loop-item l =
    exprs_before l.exprs.items (exprs_in (map typed_of l.item-iterator.rest.items)) ≡ exprs_in (map typed_of l.fn.items.items)
