use Rattle.std.proofs.Common.{◌≡◌, ◌+◌, drop}
use Rattle.vb_tree.specs.Tokens.{run, is_blank}
use Rattle.vb_lexer.proofs.content.blanks.Given as goal

abbrev pub invariant-loop-at : goal.invariant-loop-at
invariant-loop-at l = l.at + run is_blank (drop l.at l.units) ≡ run is_blank l.units
