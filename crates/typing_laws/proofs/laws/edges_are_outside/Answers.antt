use Rattle.typing_laws.proofs.Outside.{edge_is_outside}
use Rattle.typing_laws.proofs.laws.edges_are_outside.Goals as goal

pub returns : goal.returns
returns c = edge_is_outside
