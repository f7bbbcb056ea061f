use Rattle.std.proofs.Common.{sym, ap, ◌∙◌, arith}
use Rattle.form_parts.specs.Chains.{link_after}
use Rattle.form_parts.proofs.Chaining.{last_link_more}
use Rattle.form_parts.proofs.chains.last_link.Goals as goal

pub loop-token-preserved : goal.loop-token-preserved
loop-token-preserved c =
    let more = last_link_more c.args.tokens.now c.loop-token.token-index c.token-item.result c.loop-token-test.true c.token-item.is in
    record {
      so_far = c.link_after-link.ensures.is ∙ ap (λ l. link_after l c.token-item.result.kind) c.loop-token.invariant.so_far ∙ sym more;
      few = omega (arith, c.link_after-link.ensures.few, c.loop-token.invariant.few);
    }
