use Rattle.upgrade_laws.proofs.Making as terms
use Rattle.upgrade_laws.proofs.laws.translation_parts.Goals as goal

pub returns : goal.returns
returns c = terms.translation_parts
