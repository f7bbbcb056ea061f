use Rattle.memory_laws.proofs.ByPledges.{frame_writes}
use Rattle.memory_laws.proofs.laws.scalars_are_written.Goals as goal

pub returns : goal.returns
returns c = frame_writes
