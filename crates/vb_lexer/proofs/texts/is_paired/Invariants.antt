use Rattle.std.proofs.Common.{◌≡◌, false, drop}
use Rattle.vb_tree.specs.Tokens.{is_paired}
use Rattle.vb_lexer.proofs.texts.is_paired.Given as goal

abbrev pub invariant-loop-c : goal.invariant-loop-c
invariant-loop-c l = is_paired l.before (drop l.c-index l.units) ≡ is_paired false l.units
