use Rattle.std.proofs.Common.{◌≡◌, ◌+◌, length, drop}
use Rattle.net_reader.specs.LineReader.{before_blank}
use Rattle.net_reader.proofs.characters.blank_distance.Given as goal

abbrev pub invariant-loop-at : goal.invariant-loop-at
invariant-loop-at l = l.at + length (before_blank (drop l.at l.text)) ≡ length (before_blank l.text)
