use Rattle.declaration_forms.proofs.Lines.{constants_fail}
use Rattle.declaration_forms.proofs.declaration.constants_line.Goals as goal

pub returns-in-Err : goal.returns-in-Err
returns-in-Err c = constants_fail c.args.seen c.args.rest.now c.in-Err.e c.in-Err.ensures
