use Rattle.upgrade_laws.proofs.Read as terms
use Rattle.upgrade_laws.proofs.laws.read_modules_are_orderly.Goals as goal

pub returns : goal.returns
returns c = terms.grammar_orderly
