use Rattle.std.proofs.Common.{◌≡◌, length, map, sym, ap, ◌∙◌, arith}
use Rattle.std.proofs.lemmas.List.{nil_from_length}
use Rattle.expression_words.specs.Flaws.{exprs_in}
use Rattle.expression_words.specs.View.{exprs_before, typed_of}
use Rattle.expression_words.proofs.Pushes.{exprs_alone}
use Rattle.expression_words.proofs.typed.exprs_in.Goals as goal

pub returns : goal.returns
returns c =
    let none_left : length c.loop-item.item-iterator.rest.items ≡ 0 = omega (arith, c.in-None.ensures.steps.0, c.loop-item.item-iterator.rest.ok.0) in
    sym (exprs_alone c.loop-item.exprs.items)
    ∙ ap (λ ts. exprs_before c.loop-item.exprs.items (exprs_in (map typed_of ts))) (sym (nil_from_length _ none_left))
    ∙ c.loop-item.invariant
