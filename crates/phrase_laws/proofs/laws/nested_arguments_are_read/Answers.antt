use Rattle.phrase_laws.proofs.ReadBack.{nested_arguments_read}
use Rattle.phrase_laws.proofs.laws.nested_arguments_are_read.Goals as goal

pub returns : goal.returns
returns c = nested_arguments_read
