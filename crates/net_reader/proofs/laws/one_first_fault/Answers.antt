use Rattle.net_reader.proofs.OneFault.{one_first_fault}
use Rattle.net_reader.proofs.laws.one_first_fault.Goals as goal

pub returns : goal.returns
returns c = one_first_fault
