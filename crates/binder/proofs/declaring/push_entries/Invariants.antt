use Rattle.std.proofs.Common.{◌≡◌, ◌++◌, ◌+◌, length, map, drop}
use Rattle.binder.specs.ImplicitLocals.{entries_from}
use Rattle.binder.specs.View.{implicit_of}
use Rattle.binder.proofs.declaring.push_entries.Given as goal

abbrev pub invariant-loop-x : goal.invariant-loop-x
invariant-loop-x l = record {
  entries : l.to.items ++ entries_from l.next (map implicit_of (drop l.x-index l.all)) ≡ l.initial.to.items ++ entries_from l.k (map implicit_of l.all);
  counted : l.next ≡ l.k + l.x-index;
}
