use Rattle.std.proofs.Common.{◌∙◌, sym, codes}
use Rattle.form_parts.specs.Words.{is_key}
use Rattle.declaration_forms.proofs.Ends.{last_passes, last_fails}
use Rattle.declaration_forms.proofs.starts.before_static.Goals as goal

pub returns-then-is_key : goal.returns-then-is_key
returns-then-is_key c = last_passes (is_key (codes "static")) c.args.rest.now c.in_ok-last.before.now c.in_ok-last.last.now c.in_ok-last.ensures.cases.0 (sym c.is_key.ensures ∙ c.if-is_key.true)

pub returns : goal.returns
returns c = last_fails (is_key (codes "static")) c.args.rest.now c.in_ok-last.before.now c.in_ok-last.last.now c.in_ok-last.ensures.cases.0 (sym c.is_key.ensures ∙ c.if-is_key.false)
