use Rattle.placing_laws.proofs.Labels.{labels_are_found}
use Rattle.placing_laws.proofs.laws.labels_are_found.Goals as goal

pub returns : goal.returns
returns c = labels_are_found c.same_labels.ensures
