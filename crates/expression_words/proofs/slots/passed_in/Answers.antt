use Rattle.std.proofs.Common.{◌≡◌, length, map, sym, ap, ◌∙◌, arith}
use Rattle.std.proofs.lemmas.List.{nil_from_length}
use Rattle.expression_words.specs.Passing.{passed_in}
use Rattle.expression_words.specs.View.{passed_before, slot_of}
use Rattle.expression_words.proofs.Pushes.{passed_alone}
use Rattle.expression_words.proofs.slots.passed_in.Goals as goal

pub returns : goal.returns
returns c =
    let none_left : length c.loop-slot.slot-iterator.rest.items ≡ 0 = omega (arith, c.in-None.ensures.steps.0, c.loop-slot.slot-iterator.rest.ok.0) in
    sym (passed_alone c.loop-slot.args.items)
    ∙ ap (λ ss. passed_before c.loop-slot.args.items (passed_in (map slot_of ss))) (sym (nil_from_length _ none_left))
    ∙ c.loop-slot.invariant
