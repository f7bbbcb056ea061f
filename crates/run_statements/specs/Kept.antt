-- What clean procedures and lines that are covered keep in what is written for them.
use Rattle.std.specs.Prelude.{◌≡◌, ◌||◌, ◌⊎◌, ℕ, suc, true, false, Option, Some, None, List, map, slice_get, Bool, [], nat_lt}
use Rattle.std.specs.List.{Contains, list_all}
use Rattle.vb_tree.specs.declared.declared.ProcKind.{ProcKind}
use Rattle.vb_tree.specs.declared.form_parts.Label6.{Label6}
use Rattle.bound_tree.specs.declared.rule_set.RuleSet.{RuleSet}
use Rattle.bound_tree.specs.Labels.{label_of, label_at, labels}
use Rattle.bound_tree.specs.Tree.{Procedure, Constant, Variable, Line, Expr, typed, Term, variable, call, new_object, Object, no_object, Passed}
use Rattle.bound_facts.specs.Calls.{count_procedures}
use Rattle.bound_facts.specs.Effects.{is_outside}
use Rattle.bound_facts.specs.Node.{args_at, called, root}
use Rattle.bound_facts.specs.Parts.{line_stores, line_uses}
use Rattle.bound_facts.specs.SelfMade.{is_mine}
use Rattle.net_tree.specs.Tree as net
use Rattle.run_base.specs.Machines.{line_at, nth_line, go}
use Rattle.written_trees.specs.Bodies.{inside_procedure}
use Rattle.written_trees.specs.Lines.{jump, replaced_by}
use Rattle.written_trees.specs.Names.{Scope, procedure_name, procedure_path}
use Rattle.written_trees.specs.Prologues.{code_sets, constant_dim, variable_dim}
use Rattle.vb6_run.specs.Forms.{SourceLine}
use Rattle.vb6_run.specs.Lines.{lines_in}
use Rattle.vb6_run.specs.Programs.{machine_of}
use Rattle.net_run.specs.Lines.{NetFrame, NetLine, scope_of, target_of}
use Rattle.vb6_run.specs.Store.{SourceFrame}
use Rattle.net_run.specs.Members.{Code, code_at}
use Rattle.net_run.specs.Names as net_names
use Rattle.net_run.specs.Values as net_value
use Rattle.net_run.specs.Program as net_program
use Rattle.run_matches.specs.CoveredExprs.{uses_in}
use Rattle.run_matches.specs.CoveredVariables.{covers_made}
use Rattle.run_matches.specs.CoveredLines.{covers_in_block, covers_label, covers_line, has_sound_label, jump_of, resumes}
use Rattle.run_matches.specs.Covered.{covers_names, is_method_site, is_result_of, keeps_blocks}
use Rattle.run_matches.specs.Frames.{HasNames, lines_of, FrameMatch, NextMatch, frame_pledge, GivenStand}
use Rattle.run_matches.specs.Pledges.{is_inward, is_self_made}
use Rattle.run_matches.specs.Runs.{CallsAgree, line_result}
use Rattle.run_matches.specs.Sites.{Own, own_variable, own_constant, Site, site_of, site_lines, first_statement, owns_of}
use Rattle.run_matches.specs.Upgrades.{Upgrade, class_home, code_of, runnable_of}
use Rattle.run_statements.specs.Fitting.{FitsLine, FitsNode}
use Rattle.run_statements.specs.Frames.{AreReadable, IsOpen, ArePlaced, CanCall, CanMake, CanMakeAt, IsUsable}
use Rattle.run_statements.specs.Ways.{SuitsKind, Way, callee_by}
use Rattle.run_statements.specs.Written.{WrittenProcedure, WrittenLine, site_scope, Passes}
use Rattle.run_matches.specs.Agreeing.{Agrees}
use Rattle.run_matches.specs.Callees.{is_found}
use Rattle.run_matches.specs.Maps.{World}
use Rattle.run_matches.specs.Match.{MemoryMatch}

-- ---- names

-- where nothing is named so, the names of the support module and of the library lead to them in every procedure
abbrev pub NamesAreOpen : Upgrade → Type 0
NamesAreOpen U =
    (p : ℕ) (s : Site) (x : Procedure) (W : WrittenProcedure U p s x) (g : NetFrame) (k : NetLine) → covers_names U.program.declarations ≡ true
    → HasNames (Some W.code) g → IsOpen (scope_of U.written W.code g k)

-- a procedure of a kind is found as one of a number
pub record IsFoundAs (k : ProcKind) (object : Option net_value.Value) (number : ℕ) (r : net_names.Reached) : Type 0 where
  pub way : Way
  pub suits : SuitsKind way k
  pub is_found : r ≡ net_names.named (callee_by way object number)

-- what a name leads to, and without arguments too, where it names no result
pub record LeadsTo (k : ProcKind) (number : ℕ) (is_result : Bool) (S : net_names.Scope) (path : List (List ℕ)) : Type 0 where
  pub reached : net_names.Reached
  pub leads : net_names.path_start S true path ≡ net_names.starts reached []
  pub found : IsFoundAs k None number reached
  pub alone : is_result ≡ false → net_names.path_start S false path ≡ net_names.path_start S true path

-- a procedure that is called is found by what is written for its name
abbrev pub CalleesAreFound : Upgrade → Type 0
CalleesAreFound U =
    (p q : ℕ) (s t : Site) (x y : Procedure) (W : WrittenProcedure U p s x) (V : WrittenProcedure U q t y) (g : NetFrame) (k : NetLine)
    → site_of U.program.declarations p ≡ Some s → slice_get U.program.declarations.procs p ≡ Some x
    → site_of U.program.declarations q ≡ Some t → slice_get U.program.declarations.procs q ≡ Some y
    → (qualified : Bool) → is_found U.program.declarations (Some x) s (Some y) (Some t) qualified ≡ true → HasNames (Some W.code) g
    → LeadsTo y.kind V.number (is_result_of (Some x) (Some y)) (scope_of U.written W.code g k)
    (procedure_path (inside_procedure (site_scope U s) p) qualified q)

-- and so is one of the class of an object, behind the object
abbrev pub MethodsAreFound : Upgrade → Type 0
MethodsAreFound U =
    (q class home : ℕ) (t : Site) (y : Procedure) (V : WrittenProcedure U q t y) (S : net_names.Scope) (object : net_value.Value)
    → site_of U.program.declarations q ≡ Some t → slice_get U.program.declarations.procs q ≡ Some y
    → is_method_site U.program.declarations class y (Some t) ≡ true → class_home U class ≡ Some home → S.project ≡ U.written
    → IsFoundAs y.kind (Some object) V.number (net_names.named_member S (Some object) home (procedure_name U.program.declarations q))

-- ---- declarations of a procedure

-- what is written for what a procedure declares
abbrev pub own_dim : Scope → Own → net.Dim
own_dim S (own_variable v x) = variable_dim S (v, x)
own_dim S (own_constant c x) = constant_dim S (c, x)

abbrev pub IsConstantDim : net.Dim → Type 0
IsConstantDim (net.constant d) = Unit {0}
IsConstantDim d = ⊥

pub record OwnsAreKept (U : Upgrade) (p : ℕ) (s : Site) (x : Procedure) (W : WrittenProcedure U p s x) : Type 0 where
  pub prologue : W.code.procedure.prologue ≡ map (own_dim (inside_procedure (site_scope U s) p)) (owns_of U.program.declarations s)
  pub variables : (v : ℕ) (y : Variable) → Contains (owns_of U.program.declarations s) (own_variable v y) → IsUsable U v
  pub constants :
      (c : ℕ) (x : Constant) → Contains (owns_of U.program.declarations s) (own_constant c x)
      → IsConstantDim (constant_dim (inside_procedure (site_scope U s) p) (c, x))

-- the rules of the code line of a number, counted from 0
abbrev pub code_rules : Upgrade → (procedure : ℕ) → Site → (number : ℕ) → Option RuleSet
code_rules U p s k = slice_get (code_sets (inside_procedure (site_scope U s) p) p (first_statement s) 0 (site_lines s)) k

-- no rule replaces the code line
abbrev pub IsUnreplaced : Upgrade → (procedure : ℕ) → Site → (number : ℕ) → Type 0
IsUnreplaced U p s k = (rules : RuleSet) → code_rules U p s k ≡ Some rules → replaced_by rules ≡ None

-- ---- lines

-- the line of a number in a procedure has one that is written for it
abbrev pub LinesAreWritten : Upgrade → Type 0
LinesAreWritten U =
    (p : ℕ) (s : Site) (x : Procedure) → site_of U.program.declarations p ≡ Some s → (W : WrittenProcedure U p s x) (k : ℕ) (l : SourceLine)
    → line_at (machine_of (runnable_of U)) p (suc k) ≡ Some l
    → ((lines : List Line) → slice_get U.program.bodies p ≡ Some lines → list_all keeps_blocks lines ≡ true)
    → IsUnreplaced U p s k → WrittenLine U p s W.number (suc k) l

-- at a number that no line has, nothing is written
abbrev pub NoFurtherLines : Upgrade → Type 0
NoFurtherLines U =
    (p : ℕ) (s : Site) (x : Procedure) → site_of U.program.declarations p ≡ Some s → slice_get U.program.declarations.procs p ≡ Some x
    → (W : WrittenProcedure U p s x) (n : ℕ) → line_at (machine_of (runnable_of U)) p n ≡ None
    → line_at (net_program.machine_of U.written) W.number n ≡ None

-- a variable of the procedure's own, or one of its object where it may change that
abbrev pub IsOwnStore : Upgrade → (procedure : ℕ) → Expr → Type 0
IsOwnStore U p e =
    (is_outside U.program.declarations.vars p (root e) ≡ false)
    ⊎ ((is_inward U p ≡ false) × ((is_self_made U p ≡ true) × (is_mine U.program.declarations p e ≡ true)))

-- where the procedure promises to change nothing but what is its own, the line stores to that alone
abbrev pub StoresAreOwn : Upgrade → (procedure : ℕ) → Line → Type 0
StoresAreOwn U p l = (is_inward U p || is_self_made U p) ≡ true → (e : Expr) → Contains (line_stores l) e → IsOwnStore U p e

-- the variables that a line uses are found on both sides
abbrev pub UsesArePlaced : Upgrade → (procedure : ℕ) → Site → Code → Line → Type 0
UsesArePlaced U p s c l =
    (f : SourceFrame) (g : NetFrame) (k : NetLine) → HasNames (code_of U p) g → GivenStand U p f l
    → ArePlaced U p f (scope_of U.written c g k) (inside_procedure (site_scope U s) p) (uses_in U.program p l.bindings.mentions)

-- ---- labels

-- what is written for a jump to a label finds it at the line of the number at which the source finds it
abbrev pub IsFoundLabel : Upgrade → (procedure : ℕ) → Site → Code → Label6 → Type 0
IsFoundLabel U p s c a =
    target_of c (jump (labels (site_lines s)) a) ≡ label_at (labels (lines_in (slice_get U.program.bodies p))) (label_of a)

-- so it is in a procedure none of whose lines is replaced
abbrev pub LabelsAreFound : Upgrade → Type 0
LabelsAreFound U =
    (p : ℕ) (s : Site) (x : Procedure) → site_of U.program.declarations p ≡ Some s → (W : WrittenProcedure U p s x)
    → ((lines : List Line) → slice_get U.program.bodies p ≡ Some lines → list_all has_sound_label lines ≡ true)
    → ((k : ℕ) → IsUnreplaced U p s k) → (a : Label6) → covers_label (label_of a) ≡ true → IsFoundLabel U p s W.code a

-- the label of a line that jumps
abbrev pub LabelIsKept : Upgrade → (procedure : ℕ) → Site → Code → SourceLine → Type 0
LabelIsKept U p s c l = (a : Label6) → jump_of l.form.source.form ≡ Some a → IsFoundLabel U p s c a

-- ---- the lines round a line

-- control goes from both where it goes from one, and there is none where there is no other
abbrev pub SameWays : Option SourceLine → Option NetLine → Type 0
SameWays None None = Unit {0}
SameWays None (Some k) = ⊥
SameWays (Some l) None = ⊥
SameWays (Some l) (Some k) = (k.aims ≡ l.aims) × (k.tests ≡ l.tests)

-- at each number of a procedure and of the written one
abbrev pub AllSameWays : Upgrade → (p written : ℕ) → Type 0
AllSameWays U p written =
    (n : ℕ) → SameWays (line_at (machine_of (runnable_of U)) p n) (line_at (net_program.machine_of U.written) written n)

-- ---- what a line does

-- the line of a number, in a block that suits it
pub record LineStands (U : Upgrade) (p : ℕ) (s : Site) (written : ℕ) (c : Code) (number : ℕ) (l : SourceLine) : Type 0 where
  pub is_procedure : nat_lt p (count_procedures U.program) ≡ true
  pub is_there : nth_line (lines_of U p) number ≡ Some l.form
  pub in_block : covers_in_block U.program p (lines_of U p) l ≡ true
  pub label : LabelIsKept U p s c l
  -- where it goes on at the line of an error, these go the same ways
  pub ways : resumes l.form.source.form ≡ true → AllSameWays U p written

-- a line and the written line do the same, with so many turns for what they call
abbrev pub SameLineIn : Upgrade → (p q number turns : ℕ) → SourceLine → NetLine → Type 0
SameLineIn U p q number turns l k =
    (w : World) (f : SourceFrame) (g : NetFrame) → f.line ≡ number → MemoryMatch U w → FrameMatch U (frame_pledge U p w f) w p f g
    → GivenStand U p f l.form
    → Agrees U (frame_pledge U p w f) w (NextMatch U (frame_pledge U p w f) p f.me)
    (line_result (machine_of (runnable_of U)) turns p f l w.src)
    (line_result (net_program.machine_of U.written) turns q g k w.net)

abbrev pub qualified_in : Term → Bool
qualified_in (call p qualified of args) = qualified
qualified_in t = false

abbrev pub qualified_at : Expr → Bool
qualified_at (typed ty t) = qualified_in t

abbrev pub receiver_in : Term → Object
receiver_in (call p qualified of args) = of
receiver_in t = no_object

abbrev pub receiver_at : Expr → Object
receiver_at (typed ty t) = receiver_in t

-- a procedure that can be called from the lines of another
abbrev pub CanCallFrom : Upgrade → (p : ℕ) → Site → Code → (q : ℕ) → (qualified : Bool) → Object → Passed → Type 0
CanCallFrom U p s c q qualified of args =
    (w : World) (f : SourceFrame) (g : NetFrame) (k : NetLine) → HasNames (code_of U p) g
    → CanCall U (frame_pledge U p w f) (scope_of U.written c g k) (inside_procedure (site_scope U s) p) p q qualified of args

-- the class of which a node makes an object by New
abbrev pub made_in : Term → Option ℕ
made_in (new_object c) = Some c.0
made_in t = None

abbrev pub made_at : Expr → Option ℕ
made_at (typed ty t) = made_in t

-- a covered class of which a new object can be made from the lines of a procedure
abbrev pub CanMakeFrom : Upgrade → (p : ℕ) → Site → Code → (class : ℕ) → Type 0
CanMakeFrom U p s c class =
    covers_made U.program class ≡ true → (w : World) (f : SourceFrame) (g : NetFrame) (k : NetLine) → HasNames (code_of U p) g
    → CanMake U (frame_pledge U p w f) (scope_of U.written c g k) (inside_procedure (site_scope U s) p) class

-- the variable that a node uses
abbrev pub used_in : Term → Option ℕ
used_in (variable v qualified) = Some v.0
used_in t = None

abbrev pub used_at : Expr → Option ℕ
used_at (typed ty t) = used_in t

-- where it is an As New one, its use can make an object
abbrev pub CanMakeAtFrom : Upgrade → (p : ℕ) → Site → Code → (variable : ℕ) → Type 0
CanMakeAtFrom U p s c v =
    (w : World) (f : SourceFrame) (g : NetFrame) (k : NetLine) → HasNames (code_of U p) g
    → CanMakeAt U (frame_pledge U p w f) (scope_of U.written c g k) (inside_procedure (site_scope U s) p) v

-- a covered line does the same as what is written for it, where calls of what it calls agree
abbrev pub LinesAgree : Upgrade → Type 0
LinesAgree U =
    (p : ℕ) (s : Site) (written number turns : ℕ) (l : SourceLine) (c : Code) (L : WrittenLine U p s written number l) → code_at U.written written ≡ Some c
    → ((g : NetFrame) (k : NetLine) → HasNames (code_of U p) g → IsOpen (scope_of U.written c g k))
    → AreReadable U (inside_procedure (site_scope U s) p) (uses_in U.program p l.form.bindings.mentions)
    → UsesArePlaced U p s c l.form → StoresAreOwn U p l.form
    → CallsAgree U (Passes U) (go (machine_of (runnable_of U)) turns) (go (net_program.machine_of U.written) turns)
    → ((d : Expr) (q : ℕ) → Contains (line_uses l.form) d → called d ≡ Some q → CanCallFrom U p s c q (qualified_at d) (receiver_at d) (args_at d))
    → ((d : Expr) (class : ℕ) → Contains (line_uses l.form) d → made_at d ≡ Some class → CanMakeFrom U p s c class)
    → ((d : Expr) (v : ℕ) → Contains (line_uses l.form) d → used_at d ≡ Some v → CanMakeAtFrom U p s c v)
    → ((d : Expr) → Contains (line_uses l.form) d → FitsNode U d)
    → FitsLine U p l.form
    → covers_line U.program p l.form ≡ true
    → LineStands U p s written c number l
    → SameLineIn U p written number turns l L.line
