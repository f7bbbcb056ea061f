use Rattle.std.proofs.Common.{◌∙◌}
use Rattle.typing_rows.specs.Library.{call_names}
use Rattle.typing_rows.proofs.Tables.{row_found}
use Rattle.typing_rows.proofs.library.call_named.Goals as goal

pub returns : goal.returns
returns c = c.call_in.ensures ∙ row_found c.call_names.result.now call_names c.args.word.now c.call_names.ensures
