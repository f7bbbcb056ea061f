use Rattle.std.proofs.Common.{◌≡◌, ◌++◌, drop}
use Rattle.clean_procedures.specs.Broken.{some_broken, those_from}
use Rattle.clean_procedures.proofs.broken.broken_groups.Given as goal

abbrev pub invariant-loop-i : goal.invariant-loop-i
invariant-loop-i l = l.all.items ++ those_from some_broken l.i (drop l.i l.groups) ≡ those_from some_broken 0 l.groups
