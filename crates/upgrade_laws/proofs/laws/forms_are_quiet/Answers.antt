use Rattle.upgrade_laws.proofs.Forms as terms
use Rattle.upgrade_laws.proofs.laws.forms_are_quiet.Goals as goal

pub returns : goal.returns
returns c = terms.forms_are_quiet
