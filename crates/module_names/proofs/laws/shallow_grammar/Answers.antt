use Rattle.module_names.proofs.Projects.{shallow_grammar}
use Rattle.module_names.proofs.laws.shallow_grammar.Goals as goal

pub returns : goal.returns
returns c = shallow_grammar
