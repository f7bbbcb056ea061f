use Rattle.name_laws.proofs.Initializers.{initializers_are_found}
use Rattle.name_laws.proofs.laws.initializers_are_found.Goals as goal

pub returns : goal.returns
returns c = initializers_are_found
