use Rattle.vb_tree.specs.View.{exp_of}
use Rattle.vb_tree.specs.Expressions.{IsExpression, depth_of}
use Rattle.form_parts.proofs.Joining.{to_joint}
use Rattle.statement_forms.specs.LineForms.{IsLimit, limit_depth}
use Rattle.statement_forms.specs.Answer.{limit_of}
use Rattle.statement_forms.proofs.Sharing.{both_known, range_answers}
use Rattle.statement_forms.proofs.parts.range.Goals as goal

pub before_word-requires : goal.before_word-requires
before_word-requires c = to_joint

pub returns-in-Some : goal.returns-in-Some
returns-in-Some c =
    let j = rw c.in-Some.is at c.in_ok-before.ensures in
    range_answers c.args.tokens.now c.in-Some.before.now c.in-Some.after.now j c.both.result (both_known exp_of limit_of (IsExpression c.in-Some.before.now) (IsLimit c.in-Some.after.now) depth_of limit_depth c.expression.result c.limit.result c.both.result c.expression.ensures c.limit.ensures c.both.ensures)

pub returns-in-None : goal.returns-in-None
returns-in-None c = λ x q. (rw c.in-None.is at c.in_ok-before.ensures) q.0 q.1 q.2
