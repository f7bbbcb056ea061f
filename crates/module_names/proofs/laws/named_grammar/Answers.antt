use Rattle.module_names.proofs.Projects.{named_grammar}
use Rattle.module_names.proofs.laws.named_grammar.Goals as goal

pub returns : goal.returns
returns c = named_grammar
