-- What is written for the lines of a procedure, each code line and each comment at its place.
use Rattle.std.specs.Prelude.{ℕ, suc, ◌+◌, Bool, cond, take, drop, zip, sum_by, List, [], ◌∷◌, ◌++◌, Option, Some, None, slice_get}
use Rattle.std.specs.List.{flat_map}
use Rattle.vb_tree.specs.FlatLines.{flat_lines}
use Rattle.vb_tree.specs.Blocks.{is_code}
use Rattle.vb_tree.specs.Tree.{Nodes}
use Rattle.vb_tree.specs.Tree as source
use Rattle.bound_tree.specs.Labels.{Label, labels}
use Rattle.bound_tree.specs.Tree.{Line, Program}
use Rattle.net_tree.specs.declared.declaration.NetClose.{NetClose}
use Rattle.net_tree.specs.Tree as net
use Rattle.written_trees.specs.Names.{Scope}
use Rattle.written_trees.specs.Lines.{written_line}
use Rattle.written_trees.specs.Comments.{Comment, up_to, past, texts, upgrade_texts}
use Rattle.written_trees.specs.Placing.{Placed}
use Rattle.written_trees.specs.DeclaredMembers.{line_comments, statement_comments}
use Rattle.written_trees.specs.Prologues.{Code, code_sets, count_replaced, prologue}

-- ---- bodies

abbrev pub declaration_lines : Scope → (statement : ℕ) → source.Line → List net.Line
declaration_lines S n l = line_comments (statement_comments S n l)

abbrev pub code_lines_of : Scope → List (Option Label) → (k : ℕ) → Code → List net.Line
code_lines_of S ls k c = line_comments (upgrade_texts c.0 c.1.source.text) ++ written_line S ls c.0 k c.1 ∷ []

-- the first code line and the others, where a line is one
abbrev pub taken : Bool → List Code → List Code
taken test code = cond test (take 1 code) []

abbrev pub left : Bool → List Code → List Code
left test code = cond test (drop 1 code) code

-- a declaration leaves the comment on it alone
abbrev pub lines_at : Scope → List (Option Label) → (n k : ℕ) → source.Line → (is_code : Bool) → List Code → List net.Line
lines_at S ls n k l test code = cond test (flat_map (code_lines_of S ls k) code) (declaration_lines S n l)

abbrev pub replaced_in : List Code → ℕ
replaced_in code = sum_by count_replaced code

-- Lines of a body, of which the first is the statement n; before it k heads of For were replaced. The comments behind the last line stand
-- before the closing line.
abbrev pub body_from : Scope → List (Option Label) → List Comment → (n k : ℕ) → List source.Line → List Code → List net.Line
body_from S ls cs n k [] code = line_comments (texts cs)
body_from S ls cs n k (l ∷ lines) code =
    line_comments (texts (up_to l.place.line cs))
    ++ (lines_at S ls n (suc k) l (is_code l.form) (taken (is_code l.form) code)
    ++ body_from S ls (past l.place.line cs) (suc n) (k + replaced_in (taken (is_code l.form) code)) lines (left (is_code l.form) code))

abbrev pub lines_in : Option (List Line) → List Line
lines_in None = []
lines_in (Some lines) = lines

-- the code lines of a procedure with the rules that they break
abbrev pub code_at : Program → Scope → (number : ℕ) → (procedure : ℕ) → List source.Line → List Code
code_at P S n p lines = zip (code_sets S p n 0 lines) (lines_in (slice_get P.bodies p))

abbrev pub inside_procedure : Scope → (procedure : ℕ) → Scope
inside_procedure S p = record S { procedure = Some p }

-- a procedure with this head and closing line, whose lines are numbered from n
abbrev pub procedure_by : Scope → (comments : List Comment) → (number : ℕ) → List source.Line → List Code → net.Head → NetClose → net.Procedure
procedure_by S cs n lines code head close = record {
  head = head;
  prologue = prologue S n lines code;
  lines = body_from S (labels lines) cs n 0 lines code;
  close = close;
}

abbrev pub procedure_with : Program → Scope → Placed → Nodes → net.Head → NetClose → net.Procedure
procedure_with P S p body head close =
    let n = suc p.at.statement in
    let lines = flat_lines body in
    procedure_by (inside_procedure S p.at.procedure) p.inside n lines (code_at P S n p.at.procedure lines) head close
