use Rattle.std.proofs.Common.{arith}
use Rattle.vb_tree.specs.View.{exp_of}
use Rattle.vb_tree.specs.Expressions.{IsExpression, depth_of}
use Rattle.form_parts.proofs.Answering.{both_failed, both_gave}
use Rattle.form_parts.proofs.Joining.{step_joint}
use Rattle.statement_forms.proofs.Sharing.{stepped_fails, limit_fails}
use Rattle.statement_forms.proofs.parts.limit.Goals as goal

pub before_word-requires : goal.before_word-requires
before_word-requires c = step_joint

pub returns-in-Ok : goal.returns-in-Ok
returns-in-Ok c =
    let j = rw c.in-Some.is at c.in_ok-before.ensures in
    let both = both_gave exp_of exp_of (IsExpression c.in-Some.before.now) (IsExpression c.in-Some.after.now) depth_of depth_of c.expression.result c.expression-in-Some.result c.both.result _ c.expression.ensures c.expression-in-Some.ensures c.both.ensures c.in-Ok.is in
    ((c.in-Some.before.now, c.in-Some.after.now, j, both.0.0, both.0.1), omega (arith, both.1))

pub returns-in-Err : goal.returns-in-Err
returns-in-Err c =
    let j = rw c.in-Some.is at c.in_ok-before.ensures in
    stepped_fails c.args.tokens.now c.in-Some.before.now c.in-Some.after.now j c.in-Err.e (both_failed exp_of exp_of (IsExpression c.in-Some.before.now) (IsExpression c.in-Some.after.now) depth_of depth_of c.expression.result c.expression-in-Some.result c.both.result c.in-Err.e c.expression.ensures c.expression-in-Some.ensures c.both.ensures c.in-Err.is)

pub returns-in-Err-expression : goal.returns-in-Err-expression
returns-in-Err-expression c =
    let none = rw c.in-None.is at c.in_ok-before.ensures in
    limit_fails c.args.tokens.now none c.in-Err-expression.e c.in-Err-expression.ensures
