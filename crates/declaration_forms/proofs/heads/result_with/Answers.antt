use Rattle.declaration_forms.proofs.Declaring.{result_fails}
use Rattle.declaration_forms.proofs.heads.result_with.Goals as goal

pub returns-in-Err : goal.returns-in-Err
returns-in-Err c = result_fails c.args.tokens.now c.args.array c.in-Err.e c.in-Err.ensures
