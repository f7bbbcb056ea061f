use Rattle.std.proofs.Common.{◌≡◌, true, length, take, drop}
use Rattle.std.specs.List.{list_all}
use Rattle.vb_tree.specs.Tokens.{is_name_unit}
use Rattle.vb_lexer.proofs.words.name_of.Given as goal

abbrev pub invariant-loop-at : goal.invariant-loop-at
invariant-loop-at l =
    (take l.at l.bytes ≡ take l.at l.units) × (length l.bytes ≡ 255) × (list_all is_name_unit (drop l.at l.units) ≡ true)
