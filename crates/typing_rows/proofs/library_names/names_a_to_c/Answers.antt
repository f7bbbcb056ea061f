use Rattle.std.proofs.Common.{refl}
use Rattle.typing_rows.specs.LibraryNames.{names_a_to_c}
use Rattle.typing_rows.proofs.library_names.names_a_to_c.Goals as goal

pub returns : goal.returns
unfolding names_a_to_c
returns c = refl
