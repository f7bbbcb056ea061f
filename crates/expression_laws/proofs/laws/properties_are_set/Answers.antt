use Rattle.expression_laws.proofs.Setters as stated
use Rattle.expression_laws.proofs.laws.properties_are_set.Goals as goal

pub returns : goal.returns
returns c = stated.frame_properties_are_set
