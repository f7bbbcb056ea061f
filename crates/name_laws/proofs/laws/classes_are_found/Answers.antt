use Rattle.name_laws.proofs.ClassTypes.{classes_are_found}
use Rattle.name_laws.proofs.laws.classes_are_found.Goals as goal

pub returns : goal.returns
returns c = classes_are_found
