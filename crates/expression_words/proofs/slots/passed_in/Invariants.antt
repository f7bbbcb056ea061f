use Rattle.std.proofs.Common.{◌≡◌, map}
use Rattle.expression_words.specs.Passing.{passed_in}
use Rattle.expression_words.specs.View.{passed_before, slot_of}
use Rattle.expression_words.proofs.slots.passed_in.Given as goal

abbrev pub invariant-loop-slot : goal.invariant-loop-slot
invariant-loop-slot l =
    passed_before l.args.items (passed_in (map slot_of l.slot-iterator.rest.items)) ≡ passed_in (map slot_of l.fn.slots.items)
