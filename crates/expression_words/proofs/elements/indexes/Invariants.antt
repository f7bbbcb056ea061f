use Rattle.std.proofs.Common.{◌≡◌, ◌++◌, map}
use Rattle.expression_words.specs.Elements.{index_of}
use Rattle.expression_words.specs.View.{declared_in, supplied_of, typed_of}
use Rattle.expression_words.proofs.elements.indexes.Given as goal

abbrev pub invariant-loop-arg : goal.invariant-loop-arg
invariant-loop-arg l =
    map typed_of l.all.items ++ map (index_of (declared_in l.context)) (map supplied_of l.arg-iterator.rest.items)
    ≡ map (index_of (declared_in l.context)) (map supplied_of l.fn.args.items)
