use Rattle.vb_exprs.proofs.OneForm.{one_expression}
use Rattle.vb_exprs.proofs.expression.one_expression.Goals as goal

pub returns : goal.returns
returns c = one_expression
