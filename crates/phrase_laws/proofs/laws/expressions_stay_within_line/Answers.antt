use Rattle.phrase_laws.proofs.Printable.{expression_stays}
use Rattle.phrase_laws.proofs.laws.expressions_stay_within_line.Goals as goal

pub returns : goal.returns
returns c = expression_stays
