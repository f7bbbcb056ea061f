use Rattle.std.proofs.Common.{◌≡◌, drop}
use Rattle.bound_tree.specs.Labels.{label_of}
use Rattle.written_trees.specs.Lines.{meant}
use Rattle.written_lines.specs.View.{shown_labels}
use Rattle.written_lines.proofs.labels.meant.Given as goal

abbrev pub invariant-loop-other : goal.invariant-loop-other
invariant-loop-other l =
    meant (shown_labels l.labels) (label_of l.label) ≡ meant (shown_labels (drop l.other-index l.labels)) (label_of l.label)
