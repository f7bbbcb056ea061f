use Rattle.meaning_laws.proofs.ConversionRows.{minus}
use Rattle.meaning_laws.proofs.laws.same_minus.Goals as goal

pub returns : goal.returns
returns c = minus
