use Rattle.expression_laws.proofs.Agreements as stated
use Rattle.expression_laws.proofs.laws.members_agree.Goals as goal

pub returns : goal.returns
returns c = stated.frame_members_agree
