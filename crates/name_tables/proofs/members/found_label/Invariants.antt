use Rattle.std.proofs.Common.{◌≡◌, ◌+◌, map, drop}
use Rattle.vb_tree.specs.View.{line_of}
use Rattle.bound_tree.specs.Labels.{first_at, label_of, labels}
use Rattle.name_tables.specs.Scopes.{found_label}
use Rattle.name_tables.proofs.members.found_label.Given as goal

abbrev pub invariant-loop-i : goal.invariant-loop-i
invariant-loop-i l =
    found_label (map (λ x. line_of x.now) l.lines) l.label
    ≡ first_at (label_of l.label) (labels (map (λ x. line_of x.now) (drop l.i l.lines))) (l.i + 1)
