use Rattle.std.proofs.Common.{◌≡◌, map, take}
use Rattle.vb_tree.specs.FlatLines.{code_lines}
use Rattle.vb_tree.specs.View.{line_of}
use Rattle.bound_tree.specs.Labels.{labels}
use Rattle.declared_names.specs.View.{label_shown}
use Rattle.declared_names.proofs.labels.labels_of.Given as goal

abbrev pub invariant-loop-line : goal.invariant-loop-line
invariant-loop-line l = map label_shown l.all.items ≡ labels (code_lines (map (λ x. line_of x.now) (take l.line-index l.lines)))
