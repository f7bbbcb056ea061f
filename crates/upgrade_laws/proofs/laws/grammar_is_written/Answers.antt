use Rattle.upgrade_laws.proofs.Making as terms
use Rattle.upgrade_laws.proofs.laws.grammar_is_written.Goals as goal

pub returns : goal.returns
returns c = terms.grammar_is_written
