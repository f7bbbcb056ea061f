use Rattle.meaning_laws.proofs.ConversionRows.{turn}
use Rattle.meaning_laws.proofs.laws.same_not.Goals as goal

pub returns : goal.returns
returns c = turn
