use Rattle.net_reader.proofs.ModulesStand.{modules_stand}
use Rattle.net_reader.proofs.laws.read_modules_stand.Goals as goal

pub returns : goal.returns
returns c = modules_stand
