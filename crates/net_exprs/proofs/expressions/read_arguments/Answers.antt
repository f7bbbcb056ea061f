use Rattle.std.proofs.Common.{ap, sym, ◌∙◌, le-leb, Some}
use Rattle.std.proofs.lemmas.Result.{err_from_is_err_and}
use Rattle.net_tree.specs.Depth.{are_shallow, depth_exps, most_nested}
use Rattle.net_exprs.specs.Expressions.{arguments_of}
use Rattle.net_exprs.specs.Stages.{group_view}
use Rattle.net_exprs.proofs.Rooms.{arguments_fail, arguments_read, group_leaves}
use Rattle.net_exprs.proofs.expressions.read_arguments.Goals as goal

pub returns-in_err-group-clause-answers : goal.returns-in_err-group-clause-answers
returns-in_err-group-clause-answers c =
    let p = err_from_is_err_and c.from_residual.result c.from_residual.ensures.1 in
    rw (p.1, p.2) (arguments_fail most_nested c.args.text.now c.in-Some.inner.now c.in_err-group.field-0.0 (sym c.in-Some.ensures.rest) c.in_err-group.ensures.answers)

pub returns-clause-answers : goal.returns-clause-answers
returns-clause-answers c =
    let group = group_view c.in_ok-group.group in
    arguments_read most_nested c.args.text.now c.in-Some.inner.now group c.in_ok-group.rest.now (sym c.in-Some.ensures.rest) c.in_ok-group.ensures.answers
    (group_leaves most_nested c.in_ok-group.group c.in_ok-group.ensures.left)
    ∙ ap (λ es. Some (es, c.in_ok-group.rest.now)) (sym c.arguments_of.ensures.arguments)

pub returns-clause-shallow : goal.returns-clause-shallow
returns-clause-shallow c =
    ap are_shallow c.arguments_of.ensures.arguments
    ∙ le-leb (depth_exps (arguments_of (group_view c.in_ok-group.group))) most_nested (group_leaves most_nested c.in_ok-group.group c.in_ok-group.ensures.left)
