use Rattle.net_reader.proofs.ProjectsRead.{stand_for_one}
use Rattle.net_reader.proofs.laws.files_stand_for_one.Goals as goal

pub returns : goal.returns
returns c = stand_for_one
