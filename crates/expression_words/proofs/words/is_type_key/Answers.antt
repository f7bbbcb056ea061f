use Rattle.std.proofs.Common.{◌∙◌}
use Rattle.typing_rows.proofs.Tables.{word_found}
use Rattle.expression_words.specs.Meanings.{type_words}
use Rattle.expression_words.proofs.words.is_type_key.Goals as goal

pub returns : goal.returns
returns c = c.is_among.ensures ∙ word_found c.type_words.result.now type_words c.args.key.now c.type_words.ensures
