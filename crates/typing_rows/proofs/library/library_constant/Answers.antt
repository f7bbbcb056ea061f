use Rattle.std.proofs.Common.{◌∙◌, ap}
use Rattle.typing_rows.specs.Library.{look_up, constant_names, library_constant}
use Rattle.typing_rows.proofs.library.library_constant.Goals as goal

pub returns : goal.returns
unfolding library_constant
returns c = c.constant_named.ensures ∙ ap (λ w. look_up constant_names w) c.lower_bytes.ensures
