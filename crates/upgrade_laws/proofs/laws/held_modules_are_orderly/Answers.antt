use Rattle.upgrade_laws.proofs.Read as terms
use Rattle.upgrade_laws.proofs.laws.held_modules_are_orderly.Goals as goal

pub returns : goal.returns
returns c = terms.held_orderly
