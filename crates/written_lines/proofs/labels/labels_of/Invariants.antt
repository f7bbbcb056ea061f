use Rattle.std.proofs.Common.{◌≡◌, map, take}
use Rattle.vb_tree.specs.View.{line_of}
use Rattle.bound_tree.specs.Labels.{labels}
use Rattle.written_lines.specs.View.{shown_labels}
use Rattle.written_lines.proofs.labels.labels_of.Given as goal

abbrev pub invariant-loop-line : goal.invariant-loop-line
invariant-loop-line l = shown_labels l.all.items ≡ labels (map (λ x. line_of x.now) (take l.line-index l.lines))
