use Rattle.std.proofs.Common.{refl}
use Rattle.vb_exprs.specs.TokenClass.{rows_with, rows_by_letter}
use Rattle.vb_exprs.proofs.token_class.table.Goals as goal

pub returns : goal.returns
unfolding rows_with rows_by_letter
returns c = refl
