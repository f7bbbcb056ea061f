use Rattle.std.proofs.Common.{◌∙◌}
use Rattle.typing_rows.specs.LibraryNames.{names_a_to_c}
use Rattle.typing_rows.proofs.Tables.{word_found}
use Rattle.typing_rows.proofs.library_names.is_a_to_c.Goals as goal

pub returns : goal.returns
returns c = c.is_found.ensures ∙ word_found c.names_a_to_c.result.now names_a_to_c c.args.word.now c.names_a_to_c.ensures
