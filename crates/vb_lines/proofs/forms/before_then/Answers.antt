use Rattle.std.proofs.Common.{sym, ap, ◌∙◌, Some, None, cond, codes}
use Rattle.form_parts.specs.Words.{is_key}
use Rattle.statement_forms.specs.Fronts.{before_then}
use Rattle.statement_forms.proofs.Ends.{before_last_is}
use Rattle.vb_lines.proofs.forms.before_then.Goals as goal

pub returns-then-not-is_key : goal.returns-then-not-is_key
returns-then-not-is_key c =
    let front = c.in_ok-last.front.now in
    sym (ap before_then c.in_ok-last.ensures.cases.0 ∙ before_last_is (is_key (codes "then")) front c.in_ok-last.last.now ∙ ap (λ b. cond b (Some front) None) (sym c.is_key.ensures ∙ c.if-not-is_key.true))

pub returns : goal.returns
returns c =
    let front = c.in_ok-last.front.now in
    sym (ap before_then c.in_ok-last.ensures.cases.0 ∙ before_last_is (is_key (codes "then")) front c.in_ok-last.last.now ∙ ap (λ b. cond b (Some front) None) (sym c.is_key.ensures ∙ c.if-not-is_key.false))
