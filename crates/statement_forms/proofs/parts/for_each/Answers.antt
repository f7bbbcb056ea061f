use Rattle.std.proofs.Common.{sym, ap, ◌∙◌}
use Rattle.statement_forms.specs.Answer.{each_now}
use Rattle.statement_forms.proofs.Sharing.{each_fails}
use Rattle.statement_forms.proofs.parts.for_each.Goals as goal

pub returns-in-Err : goal.returns-in-Err
returns-in-Err c =
    each_fails c.args.tokens.now (c.in-Some.name.now, c.in-Some.suffix) c.in-Some.rest.now (sym c.each_parts.ensures ∙ ap each_now c.in-Some.is) c.in-Err.e c.in-Err.ensures
