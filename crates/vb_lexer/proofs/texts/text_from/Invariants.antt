use Rattle.std.proofs.Common.{◌≡◌, ◌≤◌, ◌-◌, drop, length}
use Rattle.vb_tree.specs.Tokens.{text_from}
use Rattle.vb_lexer.proofs.ReadingTexts.{behind}
use Rattle.vb_lexer.proofs.texts.text_from.Given as goal

abbrev pub invariant-loop-at : goal.invariant-loop-at
invariant-loop-at l = record {
  within : l.at ≤ length l.units;
  whole : behind l.text l.at (text_from (drop l.at l.units)) ≡ text_from l.units;
}

abbrev pub decreases-loop-at : goal.decreases-loop-at
decreases-loop-at l = length l.units - l.at
