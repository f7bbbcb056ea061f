use Rattle.std.proofs.Common.{◌≡◌, ◌+◌, drop}
use Rattle.net_reader.specs.FileLines.{line_length}
use Rattle.net_reader.proofs.file_lines.line_length.Given as goal

abbrev pub invariant-loop-at : goal.invariant-loop-at
invariant-loop-at l = l.at + line_length (drop l.at l.text) ≡ line_length l.text
