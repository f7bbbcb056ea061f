use Rattle.expression_laws.proofs.Setters as stated
use Rattle.expression_laws.proofs.laws.setters_agree.Goals as goal

pub returns : goal.returns
returns c = stated.frame_setters_agree
