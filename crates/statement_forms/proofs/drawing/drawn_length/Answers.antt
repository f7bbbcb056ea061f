use Rattle.std.proofs.Common.{◌&&◌, sym, ap, ◌∙◌}
use Rattle.statement_forms.specs.Fronts.{draws}
use Rattle.statement_forms.proofs.Drawn.{dotted_more, drawn_at, none_more, drawn_here}
use Rattle.statement_forms.proofs.drawing.drawn_length.Goals as goal

pub returns-then-is_drawn : goal.returns-then-is_drawn
returns-then-is_drawn c =
    let t = c.index-tokens-at.result in
    let at = drawn_at c.args.tokens.now c.loop-at.at t c.loop-at-test.true c.index-tokens-at.is in
    drawn_here c.args.tokens.now c.loop-at.at c.loop-at-test.true c.loop-at.invariant.none (at ∙ ap (λ b. b && draws c.index-tokens-at.result) (sym c.loop-at.invariant.dotted) ∙ sym c.is_drawn.ensures ∙ c.if-is_drawn.true)

pub loop-at-preserved : goal.loop-at-preserved
loop-at-preserved c =
    let t = c.index-tokens-at.result in
    let at = drawn_at c.args.tokens.now c.loop-at.at t c.loop-at-test.true c.index-tokens-at.is in
    record {
      dotted = c.is_dot-behind_dot.ensures ∙ sym (dotted_more c.args.tokens.now c.loop-at.at t c.loop-at-test.true c.index-tokens-at.is);
      none = none_more c.args.tokens.now c.loop-at.at t c.loop-at-test.true c.index-tokens-at.is c.loop-at.invariant.none (at ∙ ap (λ b. b && draws c.index-tokens-at.result) (sym c.loop-at.invariant.dotted) ∙ sym c.is_drawn.ensures ∙ c.if-is_drawn.false);
    }
