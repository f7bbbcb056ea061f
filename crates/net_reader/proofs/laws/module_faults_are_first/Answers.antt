use Rattle.net_reader.proofs.ModulesRead.{module_reads}
use Rattle.net_reader.proofs.ModulesStand.{module_faults}
use Rattle.net_reader.proofs.laws.module_faults_are_first.Goals as goal

pub returns : goal.returns
returns c = module_faults module_reads
