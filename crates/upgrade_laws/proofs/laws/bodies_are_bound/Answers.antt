use Rattle.upgrade_laws.proofs.Bodies as terms
use Rattle.upgrade_laws.proofs.laws.bodies_are_bound.Goals as goal

pub returns : goal.returns
returns c = terms.bodies_are_bound
