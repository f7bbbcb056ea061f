use Rattle.upgrade_laws.proofs.Settling as terms
use Rattle.upgrade_laws.proofs.laws.broken_project.Goals as goal

pub returns : goal.returns
returns c = terms.broken_project
