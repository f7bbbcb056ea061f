use Rattle.name_laws.proofs.Uses.{line_uses_are_readable}
use Rattle.name_laws.proofs.laws.line_uses_are_readable.Goals as goal

pub returns : goal.returns
returns c = line_uses_are_readable
