use Rattle.std.proofs.Common.{◌≡◌, ◌+◌, length, drop}
use Rattle.net_reader.specs.Words.{word_front}
use Rattle.net_reader.proofs.characters.word_length.Given as goal

abbrev pub invariant-loop-at : goal.invariant-loop-at
invariant-loop-at l = l.at + length (word_front (drop l.at l.text)) ≡ length (word_front l.text)
