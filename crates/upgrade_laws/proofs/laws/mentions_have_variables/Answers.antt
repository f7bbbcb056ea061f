use Rattle.upgrade_laws.proofs.Mentioning as terms
use Rattle.upgrade_laws.proofs.laws.mentions_have_variables.Goals as goal

pub returns : goal.returns
returns c = terms.mentions_have_variables
