use Rattle.row_laws.proofs.Stated as stated
use Rattle.row_laws.proofs.laws.box_is_put.Goals as goal

pub returns : goal.returns
returns c = stated.box_is_put
