use Rattle.std.proofs.Common.{sym, ap, ◌∙◌}
use Rattle.statement_forms.specs.Answer.{tail_now}
use Rattle.vb_lines.proofs.Meanings.{head_reads}
use Rattle.vb_lines.proofs.forms.head.Goals as goal

pub returns-in-Some : goal.returns-in-Some
returns-in-Some c = head_reads c.args.tokens.now c.in-Some.inner.now c.expression.result c.line_if.result (sym c.enclosed.ensures ∙ ap tail_now c.in-Some.is) c.expression.ensures c.line_if.ensures
