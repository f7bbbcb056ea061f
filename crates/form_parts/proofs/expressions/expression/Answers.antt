use Rattle.std.proofs.Common.{arith}
use Rattle.form_parts.proofs.Joining.{whole_of}
use Rattle.form_parts.proofs.expressions.expression.Goals as goal

pub returns-in-Err-TooDeep : goal.returns-in-Err-TooDeep
returns-in-Err-TooDeep c =
    let front = rw c.in-Some.is at c.in_ok-len.ensures in
    let deep = rw c.in-Err-TooDeep.field-0-is at c.in-Err-TooDeep.ensures in
    let up = front.1.longest deep.tree deep.len deep.longest.begins in
    let down = deep.longest.longest front.0 c.in-Some.len front.1.begins in
    (deep.tree, whole_of c.args.tokens.now deep.tree deep.len deep.longest.begins (omega (arith, up, down)), deep.deep deep.tree deep.len deep.longest)
