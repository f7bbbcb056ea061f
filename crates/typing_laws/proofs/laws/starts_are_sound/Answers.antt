use Rattle.typing_laws.proofs.laws.starts_are_sound.Goals as goal
use Rattle.typing_laws.proofs.Starts.{start_is_sound}

pub returns : goal.returns
returns c = start_is_sound
