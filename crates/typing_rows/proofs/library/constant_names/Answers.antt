use Rattle.std.proofs.Common.{refl}
use Rattle.typing_rows.specs.Library.{constant_names}
use Rattle.typing_rows.proofs.library.constant_names.Goals as goal

pub returns : goal.returns
unfolding constant_names
returns c = refl
