use Rattle.vb_exprs.proofs.Fronts.{longest_before}
use Rattle.vb_exprs.proofs.expression.longest_before_stop.Goals as goal

pub returns : goal.returns
returns c = longest_before
