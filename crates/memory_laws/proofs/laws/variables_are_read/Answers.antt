use Rattle.memory_laws.proofs.ByPledges.{frame_reads}
use Rattle.memory_laws.proofs.laws.variables_are_read.Goals as goal

pub returns : goal.returns
returns c = frame_reads
