-- What the labels that the code notes show.
use Rattle.std.specs.Prelude.{List, reverse}
use Rattle.std.specs.Borrow.{Bor}
use Rattle.vb_tree.specs.declared.form_parts.Label6.{Label6}
use Rattle.bound_tree.specs.Labels.{Label, label_of}
use Rattle.error_handlers.specs.declared.labels.LabelMark.{LabelMark}
use Rattle.error_handlers.specs.Jumps.{Head}
use Rattle.error_handlers.specs.Walks.{Mark}

abbrev pub mark_of : LabelMark → Mark
mark_of m = (label_of m.label.now, reverse m.heads.items)

abbrev pub seen_heads : Bor (List Head) → List Head
seen_heads b = reverse b.now

abbrev pub seen_label : Bor Label6 → Label
seen_label b = label_of b.now
