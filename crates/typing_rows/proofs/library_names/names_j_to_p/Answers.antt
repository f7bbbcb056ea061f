use Rattle.std.proofs.Common.{refl}
use Rattle.typing_rows.specs.LibraryNames.{names_j_to_p}
use Rattle.typing_rows.proofs.library_names.names_j_to_p.Goals as goal

pub returns : goal.returns
unfolding names_j_to_p
returns c = refl
