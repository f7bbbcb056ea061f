use Rattle.declaration_forms.specs.Now.{outlined_now}
use Rattle.declaration_forms.proofs.Lines.{static_head_fails}
use Rattle.declaration_forms.proofs.declaration.outlined_static.Goals as goal

pub returns-in-Err : goal.returns-in-Err
returns-in-Err c = static_head_fails c.args.kind c.args.seen (outlined_now c.args.outline) c.in-Err.e c.in-Err.ensures
