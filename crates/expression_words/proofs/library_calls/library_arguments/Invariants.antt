use Rattle.std.proofs.Common.{◌≡◌, ◌++◌, ◌+◌, length, map}
use Rattle.expression_words.specs.LibraryCalls.{library_arguments}
use Rattle.expression_words.specs.View.{declared_in, supplied_of, typed_of}
use Rattle.expression_words.proofs.library_calls.library_arguments.Given as goal

abbrev pub invariant-loop-arg : goal.invariant-loop-arg
invariant-loop-arg l = record {
  counted : l.place + length l.arg-iterator.rest.items ≡ length l.fn.args.items;
  arguments :
      map typed_of l.all.items ++ library_arguments (declared_in l.context) l.call l.place (map supplied_of l.arg-iterator.rest.items)
      ≡ library_arguments (declared_in l.context) l.call 0 (map supplied_of l.fn.args.items);
}
