use Rattle.std.proofs.Common.{sym, ap, ◌∙◌, Some, None, cond}
use Rattle.statement_forms.specs.Fronts.{before_last, is_ending}
use Rattle.statement_forms.proofs.Ends.{before_last_is}
use Rattle.statement_forms.proofs.fronts.before_last.Goals as goal

pub returns-then-not-is_ending : goal.returns-then-not-is_ending
returns-then-not-is_ending c =
    let p = is_ending c.args.ending in
    sym (ap (before_last p) c.in_ok-last.ensures.cases.0 ∙ before_last_is p c.in_ok-last.front.now c.in_ok-last.last.now ∙ ap (λ b. cond b (Some c.in_ok-last.front.now) None) (sym c.is_ending.ensures ∙ c.if-not-is_ending.true))

pub returns : goal.returns
returns c =
    let p = is_ending c.args.ending in
    sym (ap (before_last p) c.in_ok-last.ensures.cases.0 ∙ before_last_is p c.in_ok-last.front.now c.in_ok-last.last.now ∙ ap (λ b. cond b (Some c.in_ok-last.front.now) None) (sym c.is_ending.ensures ∙ c.if-not-is_ending.false))
