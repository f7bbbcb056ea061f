use Rattle.expression_laws.proofs.Autos as stated
use Rattle.expression_laws.proofs.laws.autos_are_reached.Goals as goal

pub returns : goal.returns
returns c = stated.frame_autos_are_reached
