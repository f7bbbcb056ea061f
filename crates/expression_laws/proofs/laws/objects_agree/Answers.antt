use Rattle.expression_laws.proofs.Agreements as stated
use Rattle.expression_laws.proofs.laws.objects_agree.Goals as goal

pub returns : goal.returns
returns c = stated.frame_objects_agree
