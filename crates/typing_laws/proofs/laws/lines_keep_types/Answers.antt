use Rattle.typing_laws.proofs.laws.lines_keep_types.Goals as goal
use Rattle.typing_laws.proofs.Joined.{line_keeps_types}

pub returns : goal.returns
returns c = line_keeps_types
