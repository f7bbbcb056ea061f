-- What is known of a bound program, and what is written for its procedures and their lines.
use Rattle.std.specs.List.{Contains}
use Rattle.std.specs.Prelude.{◌≡◌, ◌+◌, ◌≤◌, ℕ, suc, true, false, cond, Option, Some, None, List, map, slice_get, ◌↔◌, IsTrue}
use Rattle.vb_tree.specs.BoundTree.{Ty, array, user}
use Rattle.vb_tree.specs.declared.declared.ProcKind.{ProcKind}
use Rattle.vb_tree.specs.declared.declared.ProcKind.TheVariants as kind
use Rattle.vb_tree.specs.Blocks.{is_code}
use Rattle.vb_tree.specs.FlatLines.{code_lines}
use Rattle.vb_tree.specs.Tree as source
use Rattle.bound_tree.specs.declared.marks.Marks.{Marks}
use Rattle.bound_tree.specs.RuleSets.{has, is_broken, none}
use Rattle.bound_tree.specs.Tree.{Procedure, Line, Declarations, Expr, Program, Variable}
use Rattle.bound_facts.specs.Clean.{IsClean}
use Rattle.bound_facts.specs.Facts.{AreFacts}
use Rattle.bound_facts.specs.Parts.{line_uses}
use Rattle.net_tree.specs.declared.declaration.NetClose.{NetClose}
use Rattle.net_tree.specs.Tree.{Head, Property, get_part}
use Rattle.net_tree.specs.Types.{TypeName, object}
use Rattle.written_trees.specs.Arguments.{is_property_kind}
use Rattle.written_trees.specs.Bodies.{procedure_with, inside_procedure}
use Rattle.written_trees.specs.Facts as deciding
use Rattle.written_trees.specs.Facts.{Facts, head_set, is_array_variable, line_set}
use Rattle.written_trees.specs.Heads.{head_of, is_function, params_of, property_type, result_type, set_head}
use Rattle.written_trees.specs.Lines.{line_of}
use Rattle.written_trees.specs.Names.{Scope}
use Rattle.written_trees.specs.Placing.{Numbers}
use Rattle.written_trees.specs.Projects.{module_scope, written_module, written_project}
use Rattle.bound_tree.specs.Labels.{labels}
use Rattle.vb6_run.specs.Forms.{SourceLine}
use Rattle.run_base.specs.Machines.{line_at, nth_line}
use Rattle.net_run.specs.Lines.{NetLine}
use Rattle.net_run.specs.Members as net_members
use Rattle.net_run.specs.Members.{Code, code_at}
use Rattle.net_run.specs.Program as net_program
use Rattle.run_matches.specs.CoveredVariables.{has_extents}
use Rattle.written_trees.specs.Properties.{carries_shape}
use Rattle.run_matches.specs.Covered.{IsCovered, IsCoveredLine, covers_joined}
use Rattle.run_matches.specs.CoveredExprs.{takes_value}
use Rattle.run_matches.specs.CleanLines.{IsCleanLine, lines_at}
use Rattle.run_matches.specs.Runs.{RunsTheSame, LineDoesTheSame}
use Rattle.run_matches.specs.Sites.{Site, site_of, site_lines, first_statement}
use Rattle.run_matches.specs.Upgrades.{Upgrade, home_of, written_number, is_flagged}
use Rattle.run_statements.specs.Fitting.{FitsLine, FitsNode}
use Rattle.bound_facts.specs.Node.{is_array_type}

-- ---- what a bound program keeps

-- the lines that are bound in a procedure are its code lines
pub record HasBody (P : Program) (p : ℕ) (s : Site) : Type 0 where
  pub lines : List Line
  pub are_lines : slice_get P.bodies p ≡ Some lines
  pub sources : map (λ (l : Line). l.source) lines ≡ code_lines (site_lines s)

-- no rule is broken by the form of a code line alone
abbrev pub HasQuietForms : Facts → Site → Type 0
HasQuietForms F s =
    (i : ℕ) (l : source.Line) → slice_get (site_lines s) i ≡ Some l → is_code l.form ≡ true → F.statement s.source_module.file (first_statement s + i) ≡ none

-- All parts of a property stand in the module of its first part; they are written there as one member.
abbrev pub PartsStandTogether : Declarations → Type 0
PartsStandTogether D =
    (n : ℕ) (q : Procedure) (s : Site) → slice_get D.procs n ≡ Some q → is_property_kind q.kind ≡ true → site_of D q.first.0 ≡ Some s
    → (t : Site) × (site_of D n ≡ Some t) × (t.home ≡ s.home)

-- The first part of a property, which has itself as its first part and stands in a module: no other part stands before it.
abbrev pub FirstsAreParts : Declarations → Type 0
FirstsAreParts D =
    (n : ℕ) (q : Procedure) → slice_get D.procs n ≡ Some q → is_property_kind q.kind ≡ true
    → (q.first.0 ≤ n) × (f : Procedure) × (slice_get D.procs q.first.0 ≡ Some f) × (f.first.0 ≡ q.first.0) × (s : Site) × (site_of D q.first.0 ≡ Some s)

-- A program with what is known of it, whose written project is what is written for it by facts on its own lines.
pub record IsWritten (U : Upgrade) : Type 0 where
  pub known : AreFacts U.program U.known
  pub is_written : U.written ≡ written_project U.program U.facts
  pub parts : PartsStandTogether U.program.declarations
  pub firsts : FirstsAreParts U.program.declarations
  pub bodies : (p : ℕ) (s : Site) → site_of U.program.declarations p ≡ Some s → HasBody U.program p s
  pub forms : (p : ℕ) (s : Site) → site_of U.program.declarations p ≡ Some s → HasQuietForms U.facts s
  -- what a line that breaks no rule uses suits the ranks of arrays
  pub fits :
      (p k : ℕ) (l : Line) → nth_line (lines_at U.program p) (suc k) ≡ Some l → is_broken (line_set U.facts p k) ≡ false
      → (d : Expr) → Contains (line_uses l) d → FitsNode U d
  -- and what it makes anew suits their ranks and lower bounds
  pub resizes :
      (p k : ℕ) (l : Line) → nth_line (lines_at U.program p) (suc k) ≡ Some l → is_broken (line_set U.facts p k) ≡ false → FitsLine U p l
  -- a fixed array whose declaration carries no issue has the rank of its type
  pub ranks :
      (v : ℕ) (x : Variable) (e : Ty) (rank : ℕ) → slice_get U.program.declarations.vars v ≡ Some x → x.ty ≡ array e (suc rank) → is_flagged U v ≡ false
      → U.facts.rank v ≡ suc rank
  -- where each ReDim gives a dimension, each array has one
  pub dimensions :
      has_extents U.program ≡ true → (v : ℕ) → is_array_variable (slice_get U.program.declarations.vars v) ≡ true → U.facts.rank v ≡ 0 → ⊥
  -- what is written for user types is decided by what they hold: arrays, and what a function has to make
  pub arrays : (t : ℕ) → IsTrue (U.facts.holds_array t) ↔ deciding.Holds U.program.declarations is_array_type t
  pub made : (t : ℕ) → IsTrue (U.facts.is_made t) ↔ deciding.Holds U.program.declarations deciding.is_made_type t
  -- a variable of a user type has the type that its declaration names
  pub named : (v : ℕ) (x : Variable) (t : ℕ) → slice_get U.program.declarations.vars v ≡ Some x → x.ty ≡ user t → x.named ≡ user t
  -- the parts of a property are written as one where one of them is
  pub apart :
      (p : ℕ) (x : Procedure) → slice_get U.program.declarations.procs p ≡ Some x → is_property_kind x.kind ≡ true
      → has (head_set U.facts p) 7 ≡ false → carries_shape U.facts x.first.0 0 U.program.declarations.procs ≡ false
  -- the module of a procedure is the one of its file
  pub homes : (p : ℕ) (s : Site) → site_of U.program.declarations p ≡ Some s → home_of U s.source_module.file ≡ Some s.home

-- ---- procedures

-- where something is written in the module of a site
abbrev pub site_scope : Upgrade → Site → Scope
site_scope U s = module_scope U.program U.facts s.source_module

-- what is written for a Sub or a Function stands by itself
pub record StandsByItself (U : Upgrade) (s : Site) (x : Procedure) (c : Code) (head : Head) : Type 0 where
  pub property : c.property ≡ None
  pub sets : c.sets ≡ false
  pub is_head : head ≡ head_of (site_scope U s) x x.name

abbrev pub part_head : Scope → Procedure → Head
part_head S x = cond (is_function x.kind) get_part (set_head S x)

-- and that of a part of a property in one with that of the other part
pub record StandsInProperty (U : Upgrade) (s : Site) (x : Procedure) (c : Code) (head : Head) : Type 0 where
  pub property : Property
  pub is_property : c.property ≡ Some property
  pub name : property.name ≡ x.name
  pub sets : c.sets ≡ takes_value x.kind
  pub is_head : head ≡ part_head (site_scope U s) x

-- a property has the type that the head of its first part says
abbrev pub first_type : Scope → Option Procedure → TypeName
first_type S None = object
first_type S (Some q) = property_type S q

-- the name and the type of the result variable of what is written
abbrev pub written_result : Scope → Procedure → ProcKind → Option (List ℕ × TypeName)
written_result S x kind.Function = Some (x.name, result_type S x)
written_result S x kind.Get = Some (x.name, first_type S (slice_get S.declarations.procs x.first.0))
written_result S x _ = None

-- What is written for a procedure, which is no part of a property or one that stands in one with the others.
pub record WrittenProcedure (U : Upgrade) (p : ℕ) (s : Site) (x : Procedure) : Type 0 where
  pub number : ℕ
  pub is_number : written_number U p ≡ Some number
  pub code : Code
  pub is_code : code_at U.written number ≡ Some code
  pub home : code.home ≡ s.home
  pub numbers : Numbers
  pub is_module : slice_get U.written.modules s.home ≡ Some (written_module U.program U.facts numbers s.source_module)
  pub head : Head
  pub close : NetClose
  pub is_written : code.procedure ≡ procedure_with U.program (site_scope U s) s.placed s.body head close
  pub alone : is_property_kind x.kind ≡ false → StandsByItself U s x code head
  pub joined : is_property_kind x.kind ≡ true → StandsInProperty U s x code head
  -- the value that a Let or Set takes goes by value
  pub params : net_members.params_of code ≡ params_of (site_scope U s) (is_property_kind x.kind) x.params
  pub result : net_members.result_of code ≡ written_result (site_scope U s) x x.kind

-- no head of a property that isn't written as one
abbrev pub IsUnparted : Upgrade → (procedure : ℕ) → Procedure → Type 0
IsUnparted U p x = is_property_kind x.kind ≡ true → has (head_set U.facts p) 7 ≡ false

abbrev pub ProceduresAreWritten : Upgrade → Type 0
ProceduresAreWritten U =
    (p : ℕ) (s : Site) (x : Procedure) → site_of U.program.declarations p ≡ Some s → slice_get U.program.declarations.procs p ≡ Some x
    → covers_joined U.program.declarations p x ≡ true → IsUnparted U p x → WrittenProcedure U p s x

-- ---- lines

-- The line that is written for a line of the source that breaks no rule, in a procedure that is written as the one of a number: control
-- goes from it where it goes from the line.
pub record WrittenLine (U : Upgrade) (p : ℕ) (s : Site) (written number : ℕ) (l : SourceLine) : Type 0 where
  pub line : NetLine
  pub is_line : line_at (net_program.machine_of U.written) written number ≡ Some line
  pub form :
      line.form
      ≡ line_of (inside_procedure (site_scope U s) p) (labels (site_lines s)) l.form.source.form l.form.bindings.exprs
  pub aims : line.aims ≡ l.aims
  pub tests : line.tests ≡ l.tests

-- ---- the theorem

-- a clean procedure that is covered
abbrev pub Passes : Upgrade → (procedure : ℕ) → Type 0
Passes U p = IsClean U.program U.facts.marks p × IsCovered U.program p

-- clean procedures that are covered run the same
abbrev pub SameRuns : Upgrade → Marks → Type 0
SameRuns U M = (p : ℕ) → IsClean U.program M p → IsCovered U.program p → RunsTheSame U p

-- lines that are clean by themselves and covered do the same
abbrev pub SameLines : Upgrade → Marks → Type 0
SameLines U M = (p number : ℕ) → IsCleanLine U.program M p number → IsCoveredLine U.program M p number → LineDoesTheSame U p number
