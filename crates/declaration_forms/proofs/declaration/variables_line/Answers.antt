use Rattle.declaration_forms.proofs.Lines.{variables_fail}
use Rattle.declaration_forms.proofs.declaration.variables_line.Goals as goal

pub returns-in-Err : goal.returns-in-Err
returns-in-Err c = variables_fail c.args.word c.args.rest.now c.in-Err.e c.in-Err.ensures
