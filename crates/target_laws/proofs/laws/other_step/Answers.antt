use Rattle.target_laws.proofs.Steps.{step_lost}
use Rattle.target_laws.proofs.laws.other_step.Goals as goal

pub returns : goal.returns
returns c = step_lost
