use Rattle.std.proofs.Common.{refl}
use Rattle.typing_rows.specs.Library.{call_names}
use Rattle.typing_rows.proofs.library.call_names.Goals as goal

pub returns : goal.returns
unfolding call_names
returns c = refl
