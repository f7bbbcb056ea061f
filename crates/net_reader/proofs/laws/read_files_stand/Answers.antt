use Rattle.net_reader.proofs.FileFaults.{files_stand}
use Rattle.net_reader.proofs.ModulesRead.{module_reads}
use Rattle.net_reader.proofs.ModulesStand.{module_faults, modules_stand}
use Rattle.net_reader.proofs.laws.read_files_stand.Goals as goal

pub returns : goal.returns
returns c = files_stand module_reads (module_faults module_reads) modules_stand
