use Rattle.std.proofs.Common.{◌≡◌, ◌++◌}
use Rattle.bound_tree.specs.View.{declarations_of}
use Rattle.binder.proofs.declaring.add_names.Given as goal

abbrev pub invariant-loop-name : goal.invariant-loop-name
invariant-loop-name l = record {
  declarations : record (declarations_of l.to) { names = l.to.names ++ l.name-iterator.rest.items } ≡ record (declarations_of l.initial.to) { names = l.initial.to.names ++ l.fn.names.items };
  marks : l.to.marks ≡ l.initial.to.marks;
}
