use Rattle.std.proofs.Common.{◌≡◌, ◌+◌, drop}
use Rattle.vb_tree.specs.Tokens.{run}
use Rattle.vb_lexer.specs.Classes.{fits}
use Rattle.vb_lexer.proofs.units.run_length.Given as goal

abbrev pub invariant-loop-at : goal.invariant-loop-at
invariant-loop-at l = l.at + run (fits l.class) (drop l.at l.units) ≡ run (fits l.class) l.units
