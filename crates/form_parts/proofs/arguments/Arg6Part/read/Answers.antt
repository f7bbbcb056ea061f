use Rattle.std.proofs.Common.{arith, ◌≤◌, length}
use Rattle.std.proofs.lemmas.Grind.{common_steps}
use Rattle.form_parts.proofs.Casing.{argument_fails}
use Rattle.form_parts.proofs.arguments.Arg6Part.read.Goals as goal

pub returns-in-Err : goal.returns-in-Err
returns-in-Err c =
    let low : 1 ≤ length c.args.tokens.now = grind (arith, common_steps, c.is_empty.ensures) in
    argument_fails c.args.tokens.now c.past_name-valued.result.now c.past_mark.result.now low c.past_name-valued.ensures c.past_mark.ensures c.in-Err.e c.in-Err.ensures
