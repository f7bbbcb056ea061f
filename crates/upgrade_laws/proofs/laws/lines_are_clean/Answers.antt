use Rattle.upgrade_laws.proofs.Sound as terms
use Rattle.upgrade_laws.proofs.laws.lines_are_clean.Goals as goal

pub returns : goal.returns
returns c = terms.clean_line
