use Rattle.upgrade_laws.proofs.Owned as terms
use Rattle.upgrade_laws.proofs.laws.own_variables_are_declared.Goals as goal

pub returns : goal.returns
returns c = terms.own_variables_are_declared
