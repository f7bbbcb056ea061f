use Rattle.std.proofs.Common.{◌∙◌, sym}
use Rattle.declaration_forms.specs.Outlines.{is_opening}
use Rattle.declaration_forms.proofs.Ends.{last_passes, last_fails}
use Rattle.declaration_forms.proofs.heads.before_opening.Goals as goal

pub returns-then-is_opening : goal.returns-then-is_opening
returns-then-is_opening c = last_passes (λ t. is_opening t.kind) c.args.tokens.now c.in_ok-last.before.now c.in_ok-last.last.now c.in_ok-last.ensures.cases.0 (sym c.is_opening.ensures ∙ c.if-is_opening.true)

pub returns : goal.returns
returns c = last_fails (λ t. is_opening t.kind) c.args.tokens.now c.in_ok-last.before.now c.in_ok-last.last.now c.in_ok-last.ensures.cases.0 (sym c.is_opening.ensures ∙ c.if-is_opening.false)
