use Rattle.target_laws.proofs.Labels.{same_labels}
use Rattle.target_laws.proofs.laws.same_labels.Goals as goal

pub returns : goal.returns
returns c = same_labels
