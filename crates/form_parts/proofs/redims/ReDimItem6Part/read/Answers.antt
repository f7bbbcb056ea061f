use Rattle.form_parts.proofs.Redimming.{three_give, three_fail}
use Rattle.form_parts.proofs.redims.ReDimItem6Part.read.Goals as goal

pub returns-in_default : goal.returns-in_default
returns-in_default c = λ r q. (rw c.in_default.is at c.array_parts.ensures) q.0 q.1 q.2 q.3

pub returns-in-Ok : goal.returns-in-Ok
returns-in-Ok c =
    three_give c.args.tokens.now c.in-Some.array.now c.in-Some.bounds.now c.in-Some.after.now c.in-Some.ensures c.callee.result c.items-bounds.result c.optional_type.result c.both.result c.both-2.result c.callee.ensures c.items-bounds.ensures c.optional_type.ensures c.both.ensures c.both-2.ensures _ c.in-Ok.is

pub returns-in-Err : goal.returns-in-Err
returns-in-Err c =
    three_fail c.args.tokens.now c.in-Some.array.now c.in-Some.bounds.now c.in-Some.after.now c.in-Some.ensures c.callee.result c.items-bounds.result c.optional_type.result c.both.result c.both-2.result c.callee.ensures c.items-bounds.ensures c.optional_type.ensures c.both.ensures c.both-2.ensures c.in-Err.e c.in-Err.is
