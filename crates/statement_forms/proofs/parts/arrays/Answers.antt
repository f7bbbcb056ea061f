use Rattle.std.proofs.Common.{sym, ap, ◌∙◌}
use Rattle.statement_forms.specs.Answer.{tail_now}
use Rattle.statement_forms.proofs.Sharing.{arrays_fail}
use Rattle.statement_forms.proofs.parts.arrays.Goals as goal

pub returns-in-Err : goal.returns-in-Err
returns-in-Err c =
    arrays_fail c.args.tokens.now c.in-Some.rest.now c.past_word.result.now (sym c.behind_key.ensures ∙ ap tail_now c.in-Some.is) c.past_word.ensures c.in-Err.e c.in-Err.ensures
