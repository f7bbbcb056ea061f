use Rattle.project_loader.proofs.Unique.{first_fault_once}
use Rattle.project_loader.proofs.laws.one_first_fault.Goals as goal

pub returns : goal.returns
returns c = first_fault_once
