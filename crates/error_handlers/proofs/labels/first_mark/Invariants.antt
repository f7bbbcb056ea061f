use Rattle.std.proofs.Common.{◌≡◌, map, drop}
use Rattle.bound_tree.specs.Labels.{label_of}
use Rattle.error_handlers.specs.Marks.{mark_of}
use Rattle.error_handlers.specs.Walks.{first_mark}
use Rattle.error_handlers.proofs.labels.first_mark.Given as goal

abbrev pub invariant-loop-mark : goal.invariant-loop-mark
invariant-loop-mark l = first_mark (label_of l.label) (map mark_of l.marks) ≡ first_mark (label_of l.label) (map mark_of (drop l.mark-index l.marks))
