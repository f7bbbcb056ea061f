use Rattle.project_loader.proofs.Coverage.{held_or_first_fault}
use Rattle.project_loader.proofs.laws.held_or_fault.Goals as goal

pub returns : goal.returns
returns c = held_or_first_fault
