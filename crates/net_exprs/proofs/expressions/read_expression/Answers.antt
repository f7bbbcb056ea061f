use Rattle.std.proofs.Common.{arith, le-leb}
use Rattle.net_tree.specs.Depth.{depth_exp, most_nested}
use Rattle.net_exprs.specs.Stages.{read_view}
use Rattle.net_exprs.proofs.Rooms.{exp_fails, exp_kept}
use Rattle.net_exprs.proofs.expressions.read_expression.Goals as goal

pub returns-in-Ok-clause-answers : goal.returns-in-Ok-clause-answers
returns-in-Ok-clause-answers c = exp_kept most_nested c.args.text.now (read_view c.in-Ok.read) c.in-Ok.rest.now c.in-Ok.ensures.answers (omega (arith, c.in-Ok.ensures.left))

pub returns-in-Ok-clause-shallow : goal.returns-in-Ok-clause-shallow
returns-in-Ok-clause-shallow c = le-leb (depth_exp (read_view c.in-Ok.read)) most_nested (omega (arith, c.in-Ok.ensures.left))

pub returns-in-Err-clause-answers : goal.returns-in-Err-clause-answers
returns-in-Err-clause-answers c = exp_fails most_nested c.args.text.now c.in-Err.e c.in-Err.ensures.answers
