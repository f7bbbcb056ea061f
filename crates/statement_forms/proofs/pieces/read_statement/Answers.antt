use Rattle.std.proofs.Common.{sym, ap, ◌∙◌, subst, Err}
use Rattle.statement_forms.specs.declared.pieces.FormFail.TheVariants as fail
use Rattle.statement_forms.specs.Answer.{list_now}
use Rattle.statement_forms.specs.Pieces.{AnswersList}
use Rattle.statement_forms.proofs.pieces.read_statement.Goals as goal

pub returns-in-Err-NotFound : goal.returns-in-Err-NotFound
returns-in-Err-NotFound c =
    let alone = sym c.list_of.ensures ∙ ap list_now c.in_default.is in
    let none = rw c.in-Err-NotFound.field-0-is at c.in-Err-NotFound.ensures in
    subst (λ z. AnswersList c.args.tokens.now z (Err (fail.NoForm 0))) (sym alone) (λ f n q. none (f, n) q)
