use Rattle.phrase_laws.proofs.Printable.{type_stays}
use Rattle.phrase_laws.proofs.laws.types_stay_within_line.Goals as goal

pub returns : goal.returns
returns c = type_stays
