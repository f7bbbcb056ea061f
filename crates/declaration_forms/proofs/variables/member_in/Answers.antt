use Rattle.std.proofs.Common.{ap}
use Rattle.declaration_forms.specs.Now.{tokens_now, outlined_now}
use Rattle.declaration_forms.proofs.Declaring.{member_fails}
use Rattle.declaration_forms.proofs.variables.member_in.Goals as goal

pub returns-in-Err : goal.returns-in-Err
returns-in-Err c = member_fails (outlined_now c.args.outline) (tokens_now c.args.value) (ap tokens_now c.in-None.is) (ap tokens_now c.in-None-ty.is) c.in-Err.e c.in-Err.ensures
