use Rattle.std.proofs.Common.{◌≡◌, ◌++◌, map, drop}
use Rattle.bound_tree.specs.View.{procedure_of}
use Rattle.byref_analysis.specs.FactsOf.{known_of}
use Rattle.byref_analysis.specs.Quiet.{inward_from}
use Rattle.byref_analysis.proofs.quiet.inward_flags.Given as goal

abbrev pub invariant-loop-i : goal.invariant-loop-i
invariant-loop-i l =
    l.flags.items ++ inward_from (known_of l.facts).outward l.i (map procedure_of (drop l.i l.procs)) ≡ inward_from (known_of l.facts).outward 0 (map procedure_of l.procs)
