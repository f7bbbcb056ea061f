use Rattle.target_laws.proofs.Steps.{step_kept}
use Rattle.target_laws.proofs.laws.same_step.Goals as goal

pub returns : goal.returns
returns c = step_kept
