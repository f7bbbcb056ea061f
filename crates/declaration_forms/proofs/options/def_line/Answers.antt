use Rattle.declaration_forms.proofs.Lines.{def_fails}
use Rattle.declaration_forms.proofs.options.def_line.Goals as goal

pub returns-in-Err : goal.returns-in-Err
returns-in-Err c = def_fails c.args.word c.args.rest.now c.in-Err.e c.in-Err.ensures
