use Rattle.name_laws.proofs.Initializers.{nothing_initializes}
use Rattle.name_laws.proofs.laws.nothing_initializes.Goals as goal

pub returns : goal.returns
returns c = nothing_initializes
