use Rattle.std.proofs.Common.{refl}
use Rattle.typing_rows.specs.LibraryNames.{names_q_to_y}
use Rattle.typing_rows.proofs.library_names.names_q_to_y.Goals as goal

pub returns : goal.returns
unfolding names_q_to_y
returns c = refl
