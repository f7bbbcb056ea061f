use Rattle.std.proofs.Common.{◌≡◌, true, ◌==◌, ◌∷◌, [], ◌++◌, get_or, arith, sym, ◌∙◌, refl}
use Rattle.vb_lexer.proofs.ReadingTexts.{doubled_quote}
use Rattle.vb_lexer.proofs.texts.text_from.Goals as goal

pub loop-at-preserved-then-c-eq34 : goal.loop-at-preserved-then-c-eq34
loop-at-preserved-then-c-eq34 c =
    let made : c.push.new.self ≡ c.loop-at.text ++ 34 ∷ [] = c.in_ok-push.ensures.ok in
    let quote : (get_or c.args.units.now c.loop-at.at 0 == 34) ≡ true = rw c.if-c-eq34.true refl in
    let step = doubled_quote c.loop-at.text c.args.units.now c.loop-at.at (omega arith) quote (sym c.is_quote_at.ensures ∙ c.if-not-is_quote_at.false) c.loop-at.invariant.whole in
    record { within = step.0; whole = rw made step.1 }
