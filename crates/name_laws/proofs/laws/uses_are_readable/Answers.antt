use Rattle.name_laws.proofs.Uses.{uses_are_readable}
use Rattle.name_laws.proofs.laws.uses_are_readable.Goals as goal

pub returns : goal.returns
returns c = uses_are_readable
