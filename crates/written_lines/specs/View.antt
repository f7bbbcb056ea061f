-- The labels without memory that references to labels stand for.
use Rattle.std.specs.Prelude.{List, map, Option, option_map}
use Rattle.std.specs.Borrow.{Bor}
use Rattle.vb_tree.specs.declared.form_parts.Label6.{Label6}
use Rattle.bound_tree.specs.Labels.{Label, label_of}

abbrev pub shown_label : Option (Bor Label6) → Option Label
shown_label l = option_map (λ l. label_of l.now) l

abbrev pub shown_labels : List (Option (Bor Label6)) → List (Option Label)
shown_labels ls = map shown_label ls
