use Rattle.std.proofs.Common.{sym, ◌∙◌}
use Rattle.form_parts.proofs.Joining.{no_joined, nothing_behind, other_behind}
use Rattle.form_parts.proofs.expressions.before_word.Goals as goal

pub returns-in_default : goal.returns-in_default
returns-in_default c = λ before after j.
    no_joined c.args.word.now c.args.tokens.now before after c.requires (rw c.in_default.is at c.in_ok-len.ensures) j

pub returns-in_default-rest : goal.returns-in_default-rest
returns-in_default-rest c = λ before after j.
    let front = rw c.in-Some.is at c.in_ok-len.ensures in
    nothing_behind c.args.word.now c.args.tokens.now before after _ front.0 c.in-Some.len c.requires front.1 c.split_at.ensures.back c.in_default-rest.len_below j

pub returns-then-not-is_key : goal.returns-then-not-is_key
returns-then-not-is_key c = λ before after j.
    let front = rw c.in-Some.is at c.in_ok-len.ensures in
    other_behind c.args.word.now c.args.tokens.now before after _ front.0 c.in-Some.len c.joint-item.result c.requires front.1 c.split_at.ensures.back c.joint-item.is (sym c.is_key.ensures ∙ c.if-not-is_key.true) j
