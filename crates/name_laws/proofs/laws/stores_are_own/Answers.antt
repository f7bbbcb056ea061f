use Rattle.name_laws.proofs.Outward.{stores_are_own}
use Rattle.name_laws.proofs.laws.stores_are_own.Goals as goal

pub returns : goal.returns
returns c = stores_are_own
