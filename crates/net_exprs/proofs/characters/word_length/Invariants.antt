use Rattle.std.proofs.Common.{◌≡◌, ◌+◌, length, drop}
use Rattle.net_exprs.specs.Readers.{word_at}
use Rattle.net_exprs.proofs.characters.word_length.Given as goal

abbrev pub invariant-loop-at : goal.invariant-loop-at
invariant-loop-at l = l.at + length (word_at (drop l.at l.text)).0 ≡ length (word_at l.text).0
