use Rattle.std.proofs.Common.{◌∙◌}
use Rattle.typing_rows.specs.LibraryNames.{names_j_to_p}
use Rattle.typing_rows.proofs.Tables.{word_found}
use Rattle.typing_rows.proofs.library_names.is_j_to_p.Goals as goal

pub returns : goal.returns
returns c = c.is_found.ensures ∙ word_found c.names_j_to_p.result.now names_j_to_p c.args.word.now c.names_j_to_p.ensures
