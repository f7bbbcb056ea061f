use Rattle.std.proofs.Common.{◌∙◌, ap}
use Rattle.typing_rows.specs.LibraryNames.{is_library_word, is_library_name}
use Rattle.typing_rows.proofs.library_names.is_library_name.Goals as goal

pub returns : goal.returns
unfolding is_library_name
returns c = c.is_library_word.ensures ∙ ap (λ w. is_library_word w) c.lower_bytes.ensures
