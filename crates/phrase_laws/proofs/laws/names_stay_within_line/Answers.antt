use Rattle.phrase_laws.proofs.Printable.{name_stays}
use Rattle.phrase_laws.proofs.laws.names_stay_within_line.Goals as goal

pub returns : goal.returns
returns c = name_stays
