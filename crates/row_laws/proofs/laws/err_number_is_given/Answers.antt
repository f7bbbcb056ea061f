use Rattle.row_laws.proofs.Stated as stated
use Rattle.row_laws.proofs.laws.err_number_is_given.Goals as goal

pub returns : goal.returns
returns c = stated.err_number_is_given
