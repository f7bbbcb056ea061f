use Rattle.net_reader.proofs.FileFaults.{file_faults}
use Rattle.net_reader.proofs.ModulesRead.{module_reads}
use Rattle.net_reader.proofs.ModulesStand.{module_faults, modules_stand}
use Rattle.net_reader.proofs.laws.faults_are_first.Goals as goal

pub returns : goal.returns
returns c = file_faults module_reads (module_faults module_reads) modules_stand
