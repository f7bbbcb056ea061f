use Rattle.upgrade_laws.proofs.Uses as terms
use Rattle.upgrade_laws.proofs.laws.uses_are_mentioned.Goals as goal

pub returns : goal.returns
returns c = terms.uses_are_mentioned
