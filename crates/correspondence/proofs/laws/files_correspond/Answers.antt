use Rattle.correspondence.proofs.Corresponding.{corresponds}
use Rattle.correspondence.proofs.laws.files_correspond.Goals as goal

pub returns : goal.returns
returns c = corresponds
