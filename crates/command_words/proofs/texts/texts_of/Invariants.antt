use Rattle.std.proofs.Common.{◌≡◌, take, true}
use Rattle.command_words.specs.Commands.{seen, are_printable}
use Rattle.command_words.proofs.texts.texts_of.Given as goal

abbrev pub invariant-loop-word : goal.invariant-loop-word
invariant-loop-word l = (seen l.texts ≡ take l.word-index l.words) × (are_printable (take l.word-index l.words) ≡ true)
