use Rattle.std.proofs.Common.{refl}
use Rattle.expression_words.specs.Meanings.{type_words}
use Rattle.expression_words.proofs.words.type_words.Goals as goal

pub returns : goal.returns
unfolding type_words
returns c = refl
