use Rattle.typing_laws.proofs.laws.no_loud_is_quiet.Goals as goal
use Rattle.typing_laws.proofs.Loud.{no_loud_is_quiet}

pub returns : goal.returns
returns c = no_loud_is_quiet
