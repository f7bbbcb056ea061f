use Rattle.std.proofs.Common.{◌∙◌}
use Rattle.typing_rows.specs.LibraryNames.{names_d_to_i}
use Rattle.typing_rows.proofs.Tables.{word_found}
use Rattle.typing_rows.proofs.library_names.is_d_to_i.Goals as goal

pub returns : goal.returns
returns c = c.is_found.ensures ∙ word_found c.names_d_to_i.result.now names_d_to_i c.args.word.now c.names_d_to_i.ensures
