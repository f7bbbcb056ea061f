use Rattle.std.proofs.Common.{◌≡◌, map}
use Rattle.std.specs.Iterator.Adapters.{zip_first, zip_second}
use Rattle.std.specs.Slice.Iter.{iter_rest}
use Rattle.declared_names.specs.View.{procedure_of as named_procedure}
use Rattle.declarations.specs.Bare.{bare_procedures}
use Rattle.declarations.proofs.Firsts.{with_rest}
use Rattle.declarations.proofs.bare.bare_procedures.Given as goal

abbrev pub invariant-loop-first : goal.invariant-loop-first
invariant-loop-first l =
    with_rest l.procs.items (iter_rest (zip_first l.first-iterator)) (iter_rest (zip_second l.first-iterator)) ≡ bare_procedures l.firsts (map named_procedure l.all)
