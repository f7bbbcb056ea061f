use Rattle.project_loader.proofs.Unique.{held_or_fault}
use Rattle.project_loader.proofs.laws.no_fault_where_held.Goals as goal

pub returns : goal.returns
returns c = held_or_fault
