use Rattle.std.proofs.Common.{◌≡◌, ◌++◌, drop, map}
use Rattle.declared_names.specs.Rivals.{firsts_by}
use Rattle.declared_names.specs.View.{procedure_of}
use Rattle.declared_names.proofs.parts.firsts.Given as goal

abbrev pub invariant-loop-procedure : goal.invariant-loop-procedure
invariant-loop-procedure l =
    l.all ++ firsts_by l.places l.own (map procedure_of (drop l.procedure-index l.procs))
    ≡ firsts_by l.places 0 (map procedure_of l.procs)
