use Rattle.expression_laws.proofs.Agreements as stated
use Rattle.expression_laws.proofs.laws.arrays_agree.Goals as goal

pub returns : goal.returns
returns c = stated.frame_arrays_agree
