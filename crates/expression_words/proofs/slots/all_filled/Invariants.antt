use Rattle.std.proofs.Common.{◌≡◌, map, drop}
use Rattle.expression_words.specs.Passing.{all_filled}
use Rattle.expression_words.specs.View.{slot_of}
use Rattle.expression_words.proofs.slots.all_filled.Given as goal

abbrev pub invariant-loop-slot : goal.invariant-loop-slot
invariant-loop-slot l = all_filled (map slot_of (drop l.slot-index l.slots)) ≡ all_filled (map slot_of l.slots)
