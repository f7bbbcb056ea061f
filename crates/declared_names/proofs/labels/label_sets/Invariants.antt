use Rattle.std.proofs.Common.{◌≡◌, ◌++◌, ◌+◌, map, drop}
use Rattle.declared_names.specs.Rules.{label_sets}
use Rattle.declared_names.specs.View.{label_shown}
use Rattle.declared_names.proofs.labels.label_sets.Given as goal

abbrev pub invariant-loop-i : goal.invariant-loop-i
invariant-loop-i l =
    l.all ++ label_sets (map label_shown l.labels) (l.i + 1) (map label_shown (drop l.i l.labels))
    ≡ label_sets (map label_shown l.labels) 1 (map label_shown l.labels)
