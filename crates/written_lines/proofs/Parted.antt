-- Every form is of one of the groups.
use Rattle.std.proofs.Common.{◌≡◌, ℕ, List, refl}
use Rattle.std.specs.Prelude.{Option}
use Rattle.vb_tree.specs.Tree.{Form, assign}
use Rattle.bound_tree.specs.Labels.{Label}
use Rattle.bound_tree.specs.Tree.{Expr}
use Rattle.written_trees.specs.Lines.{first_exp, flagged_line, line_of}
use Rattle.written_trees.specs.Names.{Scope}
use Rattle.written_lines.specs.Groups.{flagged_head, flagged_other, head_of, headed_line, jump_line, or_line, plain_line, statement_line}

pub line_parted : (S : Scope) (labels : List (Option Label)) (f : Form) (es : List Expr)
    → line_of S labels f es ≡ or_line (plain_line f) (or_line (headed_line (head_of f) (first_exp S es)) (or_line (jump_line labels f) (statement_line S f es)))
line_parted S labels (assign target value) es = refl
line_parted S labels _ es = refl

pub flagged_parted : (n k : ℕ) (f : Form) → flagged_line n k f ≡ or_line (plain_line f) (flagged_head n (head_of f) (flagged_other n k f))
flagged_parted n k (assign target value) = refl
flagged_parted n k _ = refl
