use Rattle.std.proofs.Common.{◌≡◌, drop}
use Rattle.net_reader.specs.FileLines.{without_indent}
use Rattle.net_reader.proofs.margins.indent_length.Given as goal

abbrev pub invariant-loop-at : goal.invariant-loop-at
invariant-loop-at l = without_indent (drop l.at l.line) ≡ without_indent l.line
