use Rattle.upgrade_laws.proofs.Files as terms
use Rattle.upgrade_laws.proofs.laws.read_files_differ.Goals as goal

pub returns : goal.returns
returns c = terms.grammar_differs
