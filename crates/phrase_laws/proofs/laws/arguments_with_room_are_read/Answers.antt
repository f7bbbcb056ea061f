use Rattle.phrase_laws.proofs.ReadBack.{roomy_arguments_read}
use Rattle.phrase_laws.proofs.laws.arguments_with_room_are_read.Goals as goal

pub returns : goal.returns
returns c = roomy_arguments_read
