use Rattle.declaration_forms.proofs.Lines.{events_fail}
use Rattle.declaration_forms.proofs.declaration.events_line.Goals as goal

pub returns-in-Err : goal.returns-in-Err
returns-in-Err c = events_fail c.args.word c.args.rest.now c.in-Err.e c.in-Err.ensures
