use Rattle.net_exprs.proofs.Rooms.{arguments_are_shallow}
use Rattle.phrase_laws.proofs.laws.read_arguments_are_shallow.Goals as goal

pub returns : goal.returns
returns c = arguments_are_shallow
