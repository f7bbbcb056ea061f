use Rattle.memory_laws.proofs.ByPledges.{frame_sets}
use Rattle.memory_laws.proofs.laws.autos_are_set.Goals as goal

pub returns : goal.returns
returns c = frame_sets
