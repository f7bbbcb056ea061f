use Rattle.memory_laws.proofs.ByPledges.{frame_creates}
use Rattle.memory_laws.proofs.laws.objects_are_made.Goals as goal

pub returns : goal.returns
returns c = frame_creates
