use Rattle.std.proofs.Common.{refl}
use Rattle.typing_rows.specs.LibraryNames.{names_d_to_i}
use Rattle.typing_rows.proofs.library_names.names_d_to_i.Goals as goal

pub returns : goal.returns
unfolding names_d_to_i
returns c = refl
