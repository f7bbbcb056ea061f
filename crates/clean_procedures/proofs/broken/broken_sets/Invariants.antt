use Rattle.std.proofs.Common.{◌≡◌, ◌++◌, drop}
use Rattle.bound_tree.specs.RuleSets.{is_broken}
use Rattle.clean_procedures.specs.Broken.{those_from}
use Rattle.clean_procedures.proofs.broken.broken_sets.Given as goal

abbrev pub invariant-loop-i : goal.invariant-loop-i
invariant-loop-i l = l.all.items ++ those_from is_broken l.i (drop l.i l.sets) ≡ those_from is_broken 0 l.sets
