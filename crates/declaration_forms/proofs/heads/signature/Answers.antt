use Rattle.declaration_forms.specs.Now.{outlined_now}
use Rattle.declaration_forms.proofs.Declaring.{signature_fails}
use Rattle.declaration_forms.proofs.heads.signature.Goals as goal

pub returns-in-Err : goal.returns-in-Err
returns-in-Err c = signature_fails (outlined_now c.args.outline) c.args.seen c.in-Err.e c.in-Err.ensures
