use Rattle.std.proofs.Common.{◌≡◌, ◌++◌, ◌+◌, length, map}
use Rattle.bound_tree.specs.View.{expr_of}
use Rattle.expression_words.specs.View.{scope_of, typed_of}
use Rattle.binder.specs.Lines.{settled_from}
use Rattle.binder.specs.View.{part_of}
use Rattle.binder.proofs.settling.settled_all.Given as goal

abbrev pub invariant-loop-t : goal.invariant-loop-t
invariant-loop-t l = record {
  counted : l.i + length l.t-iterator.rest.items ≡ length l.fn.typed.items;
  exprs :
      map expr_of l.exprs ++ settled_from (scope_of l.scope) (map part_of l.parts) l.i (map typed_of l.t-iterator.rest.items)
      ≡ settled_from (scope_of l.scope) (map part_of l.parts) 0 (map typed_of l.fn.typed.items);
}
