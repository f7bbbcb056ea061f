use Rattle.std.proofs.Common.{◌≡◌, map, drop}
use Rattle.expression_words.specs.Flaws.{no_flaw}
use Rattle.expression_words.specs.Passing.{slot_flaws_after}
use Rattle.expression_words.specs.View.{slot_of}
use Rattle.expression_words.proofs.slots.flaws_of.Given as goal

abbrev pub invariant-loop-slot : goal.invariant-loop-slot
invariant-loop-slot l = slot_flaws_after l.flaw (map slot_of (drop l.slot-index l.slots)) ≡ slot_flaws_after no_flaw (map slot_of l.slots)
