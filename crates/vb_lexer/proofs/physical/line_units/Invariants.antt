use Rattle.std.proofs.Common.{◌≡◌, ◌+◌, drop}
use Rattle.vb_tree.specs.Tokens.{run}
use Rattle.vb_lexer.specs.Physical.{in_line}
use Rattle.vb_lexer.proofs.physical.line_units.Given as goal

abbrev pub invariant-loop-at : goal.invariant-loop-at
invariant-loop-at l = l.at + run in_line (drop l.at l.text) ≡ run in_line l.text
