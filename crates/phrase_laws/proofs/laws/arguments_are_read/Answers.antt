use Rattle.phrase_laws.proofs.ReadBack.{arguments_read}
use Rattle.phrase_laws.proofs.laws.arguments_are_read.Goals as goal

pub returns : goal.returns
returns c = arguments_read
