use Rattle.std.proofs.Common.{◌≡◌, ◌++◌, ◌+◌, length, map}
use Rattle.bound_tree.specs.View.{procedure_of, variable_of}
use Rattle.declarations.specs.Finals.{final_procedure}
use Rattle.declarations.specs.Numbered.{numbered}
use Rattle.declarations.proofs.rules.final_procedures.Given as goal

abbrev pub invariant-loop-p : goal.invariant-loop-p
invariant-loop-p l = record {
  counted : l.n + length l.p-iterator.rest.items ≡ length l.fn.procs.items;
  items :
      map procedure_of l.all.items ++ numbered (final_procedure (map variable_of l.vars) l.heads) l.n (map procedure_of l.p-iterator.rest.items)
      ≡ numbered (final_procedure (map variable_of l.vars) l.heads) 0 (map procedure_of l.fn.procs.items);
}
