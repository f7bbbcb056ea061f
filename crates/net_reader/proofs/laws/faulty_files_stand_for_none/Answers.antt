use Rattle.net_reader.proofs.OneFault.{faulty_files_stand_for_none}
use Rattle.net_reader.proofs.laws.faulty_files_stand_for_none.Goals as goal

pub returns : goal.returns
returns c = faulty_files_stand_for_none
