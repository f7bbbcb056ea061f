use Rattle.phrase_laws.proofs.Printable.{arguments_stay}
use Rattle.phrase_laws.proofs.laws.arguments_stay_within_line.Goals as goal

pub returns : goal.returns
returns c = arguments_stay
