use Rattle.name_laws.proofs.ClassTypes.{autos_are_found}
use Rattle.name_laws.proofs.laws.autos_are_found.Goals as goal

pub returns : goal.returns
returns c = autos_are_found
