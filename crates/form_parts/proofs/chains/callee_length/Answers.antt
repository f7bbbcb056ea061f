use Rattle.std.proofs.Common.{◌≡◌, take, ◌+◌, sym, ap, ◌∙◌, arith}
use Rattle.form_parts.specs.Chains.{last_link, link_after, is_member}
use Rattle.form_parts.proofs.Chaining.{last_link_more, best_all, best_more}
use Rattle.form_parts.proofs.chains.callee_length.Goals as goal
use Rattle.form_parts.proofs.chains.callee_length.Goals.{then-is_member, else-is_member}

pub loop-at-preserved : goal.loop-at-preserved
loop-at-preserved c =
    let tokens = c.args.tokens.now in
    let more = last_link_more tokens c.loop-at.at c.index-tokens-at.result c.loop-at-test.true c.index-tokens-at.is in
    let linked : c.link_after-link.result ≡ last_link (take (c.loop-at.at + 1) c.args.tokens.now) =
    c.link_after-link.ensures.is ∙ ap (λ l. link_after l c.index-tokens-at.result.kind) c.loop-at.invariant.so_far ∙ sym more in
    record {
      so_far = linked;
      few = omega (arith, c.link_after-link.ensures.few, c.loop-at.invariant.few);
      best = elim c.if-is_member.branch [
        | then-is_member w ↦ rw w.len-is (best_all tokens c.loop-at.at c.loop-at-test.true (ap is_member (sym linked) ∙ sym c.is_member.ensures ∙ w.if-is_member.true))
        | else-is_member w ↦ rw w.len-is (best_more tokens c.loop-at.at c.index-tokens-at.result c.loop-at.len c.loop-at-test.true c.index-tokens-at.is c.loop-at.invariant.best (ap is_member (sym linked) ∙ sym c.is_member.ensures ∙ w.if-is_member.false))
      ];
    }
