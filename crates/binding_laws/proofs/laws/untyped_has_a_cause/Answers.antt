use Rattle.binding_laws.proofs.Words.{all_caused}
use Rattle.binding_laws.proofs.laws.untyped_has_a_cause.Goals as goal

pub returns : goal.returns
returns c = all_caused
