use Rattle.std.proofs.Common.{◌∙◌}
use Rattle.typing_rows.specs.LibraryNames.{names_q_to_y}
use Rattle.typing_rows.proofs.Tables.{word_found}
use Rattle.typing_rows.proofs.library_names.is_q_to_y.Goals as goal

pub returns : goal.returns
returns c = c.is_found.ensures ∙ word_found c.names_q_to_y.result.now names_q_to_y c.args.word.now c.names_q_to_y.ensures
