use Rattle.name_laws.proofs.Open.{names_are_open}
use Rattle.name_laws.proofs.laws.names_are_open.Goals as goal

pub returns : goal.returns
returns c = names_are_open
