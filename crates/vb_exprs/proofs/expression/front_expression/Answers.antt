use Rattle.std.proofs.Common.{[], arith}
use Rattle.std.proofs.lemmas.Result.{err_from_is_err_and}
use Rattle.vb_exprs.proofs.Fronts.{no_front, answer_err, answer_ok}
use Rattle.vb_exprs.proofs.expression.front_expression.Goals as goal

pub returns-in_default : goal.returns-in_default
returns-in_default c = no_front c.args.tokens.now (rw c.in_default.is at c.in_ok-len.ensures)

pub returns-in_err-part : goal.returns-in_err-part
returns-in_err-part c =
    let end = rw c.in-Some.is at c.in_ok-len.ensures in
    let p = err_from_is_err_and c.from_residual-in_err-part.result c.from_residual-in_err-part.ensures.1 in
    rw (p.1, p.2) (answer_err c.args.tokens.now c.in-Some.len end _ c.in_err-part.ensures.given)

pub returns : goal.returns
returns c =
    let end = rw c.in-Some.is at c.in_ok-len.ensures in
    let m = c.in_ok-part.ensures.measured in
    answer_ok c.args.tokens.now c.in-Some.len end _ (omega (arith, m.0, m.1)) (λ u h. (c.in_ok-part.ensures.given u [] h).0)
