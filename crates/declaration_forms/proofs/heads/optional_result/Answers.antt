use Rattle.declaration_forms.specs.Heads.{IsResult, result_depth}
use Rattle.declaration_forms.proofs.Making.{optional_fails}
use Rattle.declaration_forms.proofs.heads.optional_result.Goals as goal

pub returns-in-Err : goal.returns-in-Err
returns-in-Err c = rw c.in-Some.is (optional_fails IsResult result_depth c.in-Some.tokens.now c.in-Err.e c.in-Err.ensures)
