use Rattle.memory_laws.proofs.ByPledges.{call_makes}
use Rattle.memory_laws.proofs.laws.locals_are_made.Goals as goal

pub returns : goal.returns
returns c = call_makes
