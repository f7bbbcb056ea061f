use Rattle.std.proofs.Common.{arith}
use Rattle.std.proofs.lemmas.Result.{err_from_is_err_and}
use Rattle.vb_tree.specs.View.{exp_of}
use Rattle.vb_tree.specs.Expressions.{IsExpression, depth_of}
use Rattle.form_parts.proofs.Answering.{both_failed, both_gave}
use Rattle.form_parts.proofs.Bounding.{two_bounds_fail, one_bound_fails}
use Rattle.form_parts.proofs.Joining.{to_joint}
use Rattle.form_parts.proofs.parts.Bounds6Part.read.Goals as goal

pub before_word-requires : goal.before_word-requires
before_word-requires c = to_joint

pub returns-in_err-lower-in-Some : goal.returns-in_err-lower-in-Some
returns-in_err-lower-in-Some c =
    let j = rw c.in-Some.is at c.in_ok-before.ensures in
    let p = err_from_is_err_and c.from_residual-in_err-lower-in-Some.result c.from_residual-in_err-lower-in-Some.ensures.1 in
    rw (p.1, p.2) (two_bounds_fail c.args.tokens.now c.in-Some.before.now c.in-Some.after.now j _ (both_failed exp_of exp_of (IsExpression c.in-Some.before.now) (IsExpression c.in-Some.after.now) depth_of depth_of c.expression.result c.expression-in-Some.result c.both.result _ c.expression.ensures c.expression-in-Some.ensures c.both.ensures c.in_err-lower-in-Some.was))

pub returns-in_err-upper-in-None : goal.returns-in_err-upper-in-None
returns-in_err-upper-in-None c =
    let none = rw c.in-None.is at c.in_ok-before.ensures in
    let p = err_from_is_err_and c.from_residual-in_err-upper-in-None.result c.from_residual-in_err-upper-in-None.ensures.1 in
    rw (p.1, p.2) (one_bound_fails c.args.tokens.now none _ c.in_err-upper-in-None.ensures)

pub returns-in_ok-lower-in-Some : goal.returns-in_ok-lower-in-Some
returns-in_ok-lower-in-Some c =
    let j = rw c.in-Some.is at c.in_ok-before.ensures in
    let both = both_gave exp_of exp_of (IsExpression c.in-Some.before.now) (IsExpression c.in-Some.after.now) depth_of depth_of c.expression.result c.expression-in-Some.result c.both.result _ c.expression.ensures c.expression-in-Some.ensures c.both.ensures c.in_ok-lower-in-Some.was in
    ((c.in-Some.before.now, c.in-Some.after.now, j, both.0.0, both.0.1), omega (arith, both.1))
