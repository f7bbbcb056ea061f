use Rattle.net_reader.proofs.ModulesRead.{module_reads}
use Rattle.net_reader.proofs.laws.modules_are_read.Goals as goal

pub returns : goal.returns
returns c = module_reads
