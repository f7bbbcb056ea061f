use Rattle.std.proofs.Common.{◌≡◌, ◌++◌, map}
use Rattle.bound_tree.specs.View.{procedure_of, variable_of}
use Rattle.declarations.specs.Typed.{with_result}
use Rattle.declarations.proofs.typed.with_results.Given as goal

abbrev pub invariant-loop-p : goal.invariant-loop-p
invariant-loop-p l =
    map procedure_of l.all.items ++ map (with_result (map variable_of l.vars)) (map procedure_of l.p-iterator.rest.items)
    ≡ map (with_result (map variable_of l.vars)) (map procedure_of l.fn.procs.items)
