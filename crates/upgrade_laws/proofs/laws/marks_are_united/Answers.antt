use Rattle.upgrade_laws.proofs.Cleanness as terms
use Rattle.upgrade_laws.proofs.laws.marks_are_united.Goals as goal

pub returns : goal.returns
returns c = terms.clean_is_joint
