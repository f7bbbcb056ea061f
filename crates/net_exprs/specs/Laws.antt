-- The laws of what is read: what was written is read back, and it stays within its line.
use Rattle.std.specs.Prelude.{◌≡◌, ℕ, ◌≤◌, Bool, true, false, ◌==◌, List, ◌++◌, Some}
use Rattle.std.specs.List.{list_all}
use Rattle.up_base.specs.Names.{is_printable}
use Rattle.net_tree.specs.declared.line.NetLabel.{NetLabel}
use Rattle.net_tree.specs.Types.{TypeName}
use Rattle.net_tree.specs.Tree.{Exp, Exps}
use Rattle.net_tree.specs.Spelling.{is_identifier, is_label, is_path, label_text, name_text, path_text}
use Rattle.net_tree.specs.Expressions.{are_writable_exps, arguments_text, exp_text, is_writable_exp, is_writable_type, rank_text, type_text}
use Rattle.net_exprs.specs.Ends.{ends_expression, ends_name, ends_path, ends_type}
use Rattle.net_exprs.specs.Names.{label_at, name_at, path_at}
use Rattle.net_exprs.specs.Types.{rank_at, type_at}
use Rattle.net_exprs.specs.Expressions.{arguments_at, arguments_nested, arguments_within, exp_at, exp_nested, exp_within}
use Rattle.net_tree.specs.Depth.{are_shallow, depth_exp, depth_exps, is_shallow, most_nested}
use Rattle.net_exprs.specs.Fitting.{fits_exp, fits_exps, fits_label}

abbrev pub NamesAreRead : Type 0
NamesAreRead = (n rest : List ℕ) → is_identifier n ≡ true → ends_name rest ≡ true → name_at (name_text n ++ rest) ≡ Some (n, rest)

abbrev pub PathsAreRead : Type 0
PathsAreRead = (names : List (List ℕ)) (rest : List ℕ) → is_path names ≡ true → ends_path rest ≡ true → path_at (path_text names ++ rest) ≡ Some (names, rest)

-- A number of more than 64 digits isn't written whole.
abbrev pub LabelsAreRead : Type 0
LabelsAreRead = (l : NetLabel) (rest : List ℕ) → is_label l ≡ true → fits_label l ≡ true → ends_name rest ≡ true → label_at (label_text l ++ rest) ≡ Some (l, rest)

abbrev pub RanksAreRead : Type 0
RanksAreRead = (rank : ℕ) (rest : List ℕ) → (rank == 0) ≡ false → rank_at (rank_text rank ++ rest) ≡ Some (rank, rest)

abbrev pub TypesAreRead : Type 0
TypesAreRead = (t : TypeName) (rest : List ℕ) → is_writable_type t ≡ true → ends_type rest ≡ true → type_at (type_text t ++ rest) ≡ Some (t, rest)

abbrev pub ExpressionsAreRead : Type 0
ExpressionsAreRead =
    (e : Exp) (rest : List ℕ) → is_writable_exp e ≡ true → fits_exp e ≡ true → ends_expression rest ≡ true → exp_at (exp_text e ++ rest) ≡ Some (e, rest)

abbrev pub ArgumentsAreRead : Type 0
ArgumentsAreRead = (es : Exps) (rest : List ℕ) → are_writable_exps es ≡ true → fits_exps es ≡ true → arguments_at (arguments_text es ++ rest) ≡ Some (es, rest)

-- An expression is read wherever there is room for its depth.
abbrev pub ExpressionsWithRoomAreRead : Type 0
ExpressionsWithRoomAreRead =
    (room : ℕ) (e : Exp) (rest : List ℕ) → depth_exp e ≤ room → is_writable_exp e ≡ true → fits_exp e ≡ true → ends_expression rest ≡ true
    → exp_nested room (exp_text e ++ rest) ≡ Some (e, rest)

abbrev pub ArgumentsWithRoomAreRead : Type 0
ArgumentsWithRoomAreRead =
    (room : ℕ) (es : Exps) (rest : List ℕ) → depth_exps es ≤ room → are_writable_exps es ≡ true → fits_exps es ≡ true
    → arguments_nested room (arguments_text es ++ rest) ≡ Some (es, rest)

-- The reader that reads nothing deeper does so too.
abbrev pub NestedExpressionsAreRead : Type 0
NestedExpressionsAreRead =
    (room : ℕ) (e : Exp) (rest : List ℕ) → depth_exp e ≤ room → is_writable_exp e ≡ true → fits_exp e ≡ true → ends_expression rest ≡ true
    → exp_within room (exp_text e ++ rest) ≡ Some (e, rest)

abbrev pub NestedArgumentsAreRead : Type 0
NestedArgumentsAreRead =
    (room : ℕ) (es : Exps) (rest : List ℕ) → depth_exps es ≤ room → are_writable_exps es ≡ true → fits_exps es ≡ true
    → arguments_within room (arguments_text es ++ rest) ≡ Some (es, rest)

-- The code has room for whatever is no deeper than it reads.
abbrev pub ShallowExpressionsAreRead : Type 0
ShallowExpressionsAreRead =
    (e : Exp) (rest : List ℕ) → is_shallow e ≡ true → is_writable_exp e ≡ true → fits_exp e ≡ true → ends_expression rest ≡ true
    → exp_within most_nested (exp_text e ++ rest) ≡ Some (e, rest)

abbrev pub ShallowArgumentsAreRead : Type 0
ShallowArgumentsAreRead =
    (es : Exps) (rest : List ℕ) → are_shallow es ≡ true → are_writable_exps es ≡ true → fits_exps es ≡ true
    → arguments_within most_nested (arguments_text es ++ rest) ≡ Some (es, rest)

-- An expression that is read within some room is no deeper than that.
abbrev pub ReadExpressionsAreShallow : Type 0
ReadExpressionsAreShallow = (room : ℕ) (s : List ℕ) (e : Exp) (rest : List ℕ) → exp_within room s ≡ Some (e, rest) → depth_exp e ≤ room

-- None of the arguments that are read within some room is deeper than that.
abbrev pub ReadArgumentsAreShallow : Type 0
ReadArgumentsAreShallow = (room : ℕ) (s : List ℕ) (es : Exps) (rest : List ℕ) → arguments_within room s ≡ Some (es, rest) → depth_exps es ≤ room

-- whether all of a text is printable, so that it holds no end of a line
abbrev pub stays_within_line : List ℕ → Bool
stays_within_line text = list_all is_printable text

abbrev pub NamesStayWithinLine : Type 0
NamesStayWithinLine = (n : List ℕ) → is_identifier n ≡ true → stays_within_line (name_text n) ≡ true

abbrev pub LabelsStayWithinLine : Type 0
LabelsStayWithinLine = (l : NetLabel) → is_label l ≡ true → stays_within_line (label_text l) ≡ true

abbrev pub TypesStayWithinLine : Type 0
TypesStayWithinLine = (t : TypeName) → is_writable_type t ≡ true → stays_within_line (type_text t) ≡ true

abbrev pub ExpressionsStayWithinLine : Type 0
ExpressionsStayWithinLine = (e : Exp) → is_writable_exp e ≡ true → stays_within_line (exp_text e) ≡ true

abbrev pub ArgumentsStayWithinLine : Type 0
ArgumentsStayWithinLine = (es : Exps) → are_writable_exps es ≡ true → stays_within_line (arguments_text es) ≡ true
