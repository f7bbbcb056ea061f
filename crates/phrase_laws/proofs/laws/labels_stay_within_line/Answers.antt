use Rattle.phrase_laws.proofs.Printable.{label_stays}
use Rattle.phrase_laws.proofs.laws.labels_stay_within_line.Goals as goal

pub returns : goal.returns
returns c = label_stays
