use Rattle.phrase_laws.proofs.ReadBack.{shallow_arguments_read}
use Rattle.phrase_laws.proofs.laws.shallow_arguments_are_read.Goals as goal

pub returns : goal.returns
returns c = shallow_arguments_read
