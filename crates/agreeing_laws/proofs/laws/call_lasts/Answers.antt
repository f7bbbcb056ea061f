use Rattle.agreeing_laws.proofs.Frames.{call_lasts}
use Rattle.agreeing_laws.proofs.laws.call_lasts.Goals as goal

pub returns : goal.returns
returns c = call_lasts
