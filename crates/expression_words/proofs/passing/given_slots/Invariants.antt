use Rattle.std.proofs.Common.{◌≡◌, ◌++◌, ◌+◌, length, map}
use Rattle.expression_words.specs.Passing.{given_slots}
use Rattle.expression_words.specs.View.{declared_in, slot_of, supplied_of}
use Rattle.expression_words.proofs.passing.given_slots.Given as goal

abbrev pub invariant-loop-arg : goal.invariant-loop-arg
invariant-loop-arg l = record {
  counted : l.next + length l.arg-iterator.rest.items ≡ length l.fn.args.items;
  slots :
      map slot_of l.all.items ++ given_slots (declared_in l.context) l.params l.next (map supplied_of l.arg-iterator.rest.items)
      ≡ given_slots (declared_in l.context) l.params 0 (map supplied_of l.fn.args.items);
}
