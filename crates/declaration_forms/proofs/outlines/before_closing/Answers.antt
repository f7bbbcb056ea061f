use Rattle.std.proofs.Common.{◌∙◌, sym}
use Rattle.declaration_forms.specs.Outlines.{is_closing}
use Rattle.declaration_forms.proofs.Ends.{last_passes, last_fails}
use Rattle.declaration_forms.proofs.outlines.before_closing.Goals as goal

pub returns-then-is_closing : goal.returns-then-is_closing
returns-then-is_closing c = last_passes (λ t. is_closing t.kind) c.args.tokens.now c.in_ok-last.before.now c.in_ok-last.last.now c.in_ok-last.ensures.cases.0 (sym c.is_closing.ensures ∙ c.if-is_closing.true)

pub returns : goal.returns
returns c = last_fails (λ t. is_closing t.kind) c.args.tokens.now c.in_ok-last.before.now c.in_ok-last.last.now c.in_ok-last.ensures.cases.0 (sym c.is_closing.ensures ∙ c.if-is_closing.false)
