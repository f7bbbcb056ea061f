use Rattle.std.proofs.Common.{◌∙◌}
use Rattle.declaration_forms.proofs.Ends.{word_among}
use Rattle.declaration_forms.proofs.outlines.is_type_word.Goals as goal

pub returns : goal.returns
returns c = c.is_one_of.ensures ∙ word_among c.type_words.result.now c.args.word.now c.type_words.ensures
