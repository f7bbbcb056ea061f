use Rattle.std.proofs.Common.{◌∙◌, ap}
use Rattle.typing_rows.specs.Library.{look_up, call_names, library_call}
use Rattle.typing_rows.proofs.library.library_call.Goals as goal

pub returns : goal.returns
unfolding library_call
returns c = c.call_named.ensures ∙ ap (λ w. look_up call_names w) c.lower_bytes.ensures
