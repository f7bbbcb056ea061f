use Rattle.net_exprs.proofs.Rooms.{exp_is_shallow}
use Rattle.phrase_laws.proofs.laws.read_expressions_are_shallow.Goals as goal

pub returns : goal.returns
returns c = exp_is_shallow
