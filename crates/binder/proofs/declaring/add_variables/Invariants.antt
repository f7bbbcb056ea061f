use Rattle.std.proofs.Common.{◌≡◌, ◌++◌, map}
use Rattle.bound_tree.specs.View as bound
use Rattle.bound_tree.specs.View.{declarations_of}
use Rattle.binder.proofs.declaring.add_variables.Given as goal

abbrev pub invariant-loop-v : goal.invariant-loop-v
invariant-loop-v l = record {
  declarations :
      record (declarations_of l.to) { vars = map bound.variable_of l.to.vars ++ map bound.variable_of l.v-iterator.rest.items }
      ≡ record (declarations_of l.initial.to) { vars = map bound.variable_of l.initial.to.vars ++ map bound.variable_of l.fn.vars.items };
  marks : l.to.marks ≡ l.initial.to.marks;
}
