use Rattle.statement_forms.proofs.Sharing.{jump_answers}
use Rattle.statement_forms.proofs.printing.jumped.Goals as goal

pub returns-in-Some : goal.returns-in-Some
returns-in-Some c =
    let j = rw c.in-Some.is at c.in_ok-before.ensures in
    jump_answers c.args.tokens.now c.in-Some.before.now j c.expression.result c.expression.ensures

pub returns-in-None : goal.returns-in-None
returns-in-None c = λ x q. (rw c.in-None.is at c.in_ok-before.ensures) q.0 q.1
