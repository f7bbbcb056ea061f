use Rattle.memory_laws.proofs.ByPledges.{frame_finds}
use Rattle.memory_laws.proofs.laws.members_are_found.Goals as goal

pub returns : goal.returns
returns c = frame_finds
