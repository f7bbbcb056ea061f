use Rattle.name_laws.proofs.Placed.{uses_are_placed}
use Rattle.name_laws.proofs.laws.uses_are_placed.Goals as goal

pub returns : goal.returns
returns c = uses_are_placed
