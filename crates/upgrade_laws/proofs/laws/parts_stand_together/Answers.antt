use Rattle.upgrade_laws.proofs.Together as terms
use Rattle.upgrade_laws.proofs.laws.parts_stand_together.Goals as goal

pub returns : goal.returns
returns c = terms.parts_stand_together
