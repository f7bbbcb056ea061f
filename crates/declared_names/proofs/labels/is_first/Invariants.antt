use Rattle.std.proofs.Common.{◌≡◌, ◌+◌, map, drop}
use Rattle.bound_tree.specs.Labels.{first_at, label_at, label_of}
use Rattle.declared_names.specs.View.{label_shown}
use Rattle.declared_names.proofs.labels.is_first.Given as goal

abbrev pub invariant-loop-i : goal.invariant-loop-i
invariant-loop-i l =
    label_at (map label_shown l.labels) (label_of l.label) ≡ first_at (label_of l.label) (map label_shown (drop l.i l.labels)) (l.i + 1)
