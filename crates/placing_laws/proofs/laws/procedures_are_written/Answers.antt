use Rattle.placing_laws.proofs.Placing.{procedures_are_written}
use Rattle.placing_laws.proofs.laws.procedures_are_written.Goals as goal

pub returns : goal.returns
returns c = procedures_are_written
