use Rattle.target_laws.proofs.Aims.{same_aims}
use Rattle.target_laws.proofs.laws.same_aims.Goals as goal

pub returns : goal.returns
returns c = same_aims
