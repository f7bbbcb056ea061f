use Rattle.std.proofs.Common.{◌∙◌}
use Rattle.typing_rows.specs.Library.{constant_names}
use Rattle.typing_rows.proofs.Tables.{row_found}
use Rattle.typing_rows.proofs.library.constant_named.Goals as goal

pub returns : goal.returns
returns c = c.constant_in.ensures ∙ row_found c.constant_names.result.now constant_names c.args.word.now c.constant_names.ensures
