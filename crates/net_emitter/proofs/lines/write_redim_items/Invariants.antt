use Rattle.std.proofs.Common.{◌≡◌, ◌++◌, map, take, codes}
use Rattle.net_tree.specs.View.{redim_item_of}
use Rattle.net_tree.specs.Spelling.{separated}
use Rattle.net_tree.specs.Lines.{redim_item_text}
use Rattle.net_emitter.proofs.lines.write_redim_items.Given as goal

abbrev pub invariant-loop-i : goal.invariant-loop-i
invariant-loop-i l = l.out ≡ l.initial.out ++ separated (codes ", ") (take l.i (map redim_item_text (map redim_item_of l.items)))
