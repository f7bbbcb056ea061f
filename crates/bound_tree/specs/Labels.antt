-- Labels, and the code line that one stands at.
use Rattle.std.specs.Prelude.{ℕ, ℤ, suc, Bool, false, cond, Option, Some, None, List, [], ◌∷◌, map}
use Rattle.std.specs.Ordering.{int_eq}
use Rattle.up_base.specs.Names.{is_same_name}
use Rattle.vb_tree.specs.declared.form_parts.Label6.{Label6}
use Rattle.vb_tree.specs.declared.form_parts.Label6.TheVariants as label6
use Rattle.vb_tree.specs.Tree.{Form, Line}
use Rattle.vb_tree.specs.Tree as vb

-- a label of either language
pub data Label : Type 0 where
  word : (name : List ℕ) → Label
  number : ℤ → Label

abbrev pub label_of : Label6 → Label
label_of (label6.Word name) = word name
label_of (label6.Number n) = number n

-- words are compared without case
abbrev pub is_same_label : Label → Label → Bool
is_same_label (word a) (word b) = is_same_name a b
is_same_label (word a) (number n) = false
is_same_label (number m) (word b) = false
is_same_label (number m) (number n) = int_eq m n

-- the label that a line is
abbrev pub label_in : Form → Option Label
label_in (vb.label a) = Some (label_of a)
label_in _ = None

abbrev pub labels : List Line → List (Option Label)
labels lines = map (λ l. label_in l.form) lines

abbrev pub is_label : Label → Option Label → Bool
is_label a None = false
is_label a (Some b) = is_same_label a b

-- the first line with a label, of lines that are numbered from n
abbrev pub first_at : Label → List (Option Label) → ℕ → Option ℕ
first_at a [] n = None
first_at a (l ∷ lines) n = cond (is_label a l) (Some n) (first_at a lines (suc n))

-- the code line that a label stands at, of lines that are numbered from 1
abbrev pub label_at : List (Option Label) → Label → Option ℕ
label_at lines a = first_at a lines 1
