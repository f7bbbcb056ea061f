use Rattle.row_laws.proofs.Stated as stated
use Rattle.row_laws.proofs.laws.variant_imp_is_row.Goals as goal

pub returns : goal.returns
returns c = stated.variant_imp
