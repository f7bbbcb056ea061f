use Rattle.row_laws.proofs.Stated as stated
use Rattle.row_laws.proofs.laws.middle_is_row.Goals as goal

pub returns : goal.returns
returns c = stated.middle_is_row
