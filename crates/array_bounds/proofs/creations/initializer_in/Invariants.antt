use Rattle.std.proofs.Common.{◌≡◌, map, drop, codes}
use Rattle.bound_tree.specs.View.{procedure_of}
use Rattle.bound_facts.specs.Members.{sub_from}
use Rattle.array_bounds.proofs.creations.initializer_in.Given as goal

abbrev pub invariant-loop-i : goal.invariant-loop-i
invariant-loop-i l =
    sub_from l.file (codes "Class_Initialize") 0 (map procedure_of l.procs) ≡ sub_from l.file (codes "Class_Initialize") l.i (map procedure_of (drop l.i l.procs))
