use Rattle.agreeing_laws.proofs.Frames.{frame_lasts}
use Rattle.agreeing_laws.proofs.laws.frame_lasts.Goals as goal

pub returns : goal.returns
returns c = frame_lasts
