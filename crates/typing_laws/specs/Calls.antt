-- Procedures that can be run: covered, flat and well typed, with all that they reach.
use Rattle.std.specs.Prelude.{◌≡◌, ℕ, true, false, List, [], ◌∷◌, Option, Some, slice_get}
use Rattle.vb_tree.specs.declared.declared.VarId.{VarId}
use Rattle.vb_tree.specs.Tree.{Form}
use Rattle.bound_tree.specs.Targets.{Step, aims_at, step_of}
use Rattle.bound_tree.specs.Tree.{Procedure, Expr, Line}
use Rattle.bound_facts.specs.Calls.{Reaches}
use Rattle.bound_facts.specs.Effects.{params_at}
use Rattle.bound_facts.specs.Node.{called}
use Rattle.bound_facts.specs.Nodes.{nodes}
use Rattle.bound_facts.specs.Parts.{line_uses}
use Rattle.run_base.specs.Machines.{Job, enters}
use Rattle.run_base.specs.Outcomes.{Outcome, gives, raises, spent, outside}
use Rattle.vb6_run.specs.Expressions.{Context, declared}
use Rattle.vb6_run.specs.Runnables.{Runnable, declarations_of}
use Rattle.vb6_run.specs.Store.{Address, Memory, Locked, SourceGiven}
use Rattle.vb6_run.specs.Values.{Value}
use Rattle.run_matches.specs.CoveredVariables.{has_extents, is_loud}
use Rattle.run_matches.specs.CoveredLines.{covers_part, head_line}
use Rattle.run_matches.specs.Covered.{IsCovered, suits}
use Rattle.typing_laws.specs.Frames.{AreGiven, Footprint, Ground, IsReturned, IsSound, Keeps, code_line, ground}
use Rattle.typing_laws.specs.Flat.{has_field_type, is_flat_line, is_flat_procedure}
use Rattle.typing_laws.specs.Typed.{gives_what_it_has, is_typed_line, is_typed_procedure}

abbrev pub SourceJob : Type 0
SourceJob = Job ℕ Value Address Locked

-- of the procedures that a procedure reaches a Sub has no type of a value
abbrev pub HaveResults : Runnable → (procedure : ℕ) → Type 0
HaveResults R p = (q : ℕ) → Reaches R.program p q → gives_what_it_has (slice_get R.program.declarations.procs q) ≡ true

-- they are flat
abbrev pub AreFlat : Runnable → (procedure : ℕ) → Type 0
AreFlat R p = (q : ℕ) → Reaches R.program p q → is_flat_procedure R.program q ≡ true

-- a loud parameter, which is one that is changed or whose procedure acts, runs as none that is quiet
abbrev pub RunLoud : Runnable → (procedure : ℕ) → Type 0
RunLoud R p =
    (place : ℕ) (v : VarId) → slice_get (params_at (slice_get R.program.declarations.procs p)) place ≡ Some v
    → is_loud R.program v.0 (slice_get R.program.declarations.vars v.0) ≡ true → R.quiet p place ≡ false

-- so do those of all of these
abbrev pub AreLoud : Runnable → (procedure : ℕ) → Type 0
AreLoud R p = (q : ℕ) → Reaches R.program p q → RunLoud R q

-- covered, flat and well typed, with all that it reaches
pub record IsReady (R : Runnable) (p : ℕ) : Type 0 where
  pub covered : IsCovered R.program p
  pub flat : AreFlat R p
  pub typed : (q : ℕ) → Reaches R.program p q → is_typed_procedure R.program q ≡ true
  pub results : HaveResults R p
  pub loud : AreLoud R p

abbrev pub Each : {A : Type 0} → (A → Type 0) → List A → Type 0
Each Q [] = Unit {0}
Each Q (x ∷ xs) = Q x × Each Q xs

-- an expression whose call, if it is one, has arguments that suit a procedure that can be run, and which has the type of its field, if it is one
pub record IsSuited (R : Runnable) (e : Expr) : Type 0 where
  pub suits : suits (declarations_of R) e ≡ true
  pub ready : (q : ℕ) → called e ≡ Some q → IsReady R q
  pub field : has_field_type (declarations_of R) e ≡ true

-- the same of all its parts
abbrev pub CallsAreSuited : Runnable → Expr → Type 0
CallsAreSuited R e = Each (IsSuited R) (nodes e)

-- how calls end from a memory: what is outside has a cause
abbrev pub EndsAsCall : Ground → (SourceJob → Memory → Type 0) → Procedure → SourceJob → Memory → Outcome Memory (Option Value) → Type 0
EndsAsCall K X x job w (gives o y v) = Keeps K w v × IsReturned K.declarations x y
EndsAsCall K X x job w (raises o n v) = Keeps K w v
EndsAsCall K X x job w (spent o v) = Keeps K w v
EndsAsCall K X x job w (outside o) = X job w

-- calls of procedures that can be run keep the types of what stands, or leave the tables
abbrev pub CallsKeep : Context → Footprint → (SourceJob → Memory → Type 0) → Type 0
CallsKeep C F X =
    (q : ℕ) (x : Procedure) (gs : List SourceGiven) (w : Memory) → IsReady C.runnable q → slice_get (declared C).procs q ≡ Some x
    → IsSound (ground (declared C) F) w → AreGiven (ground (declared C) F) w x.params gs
    → EndsAsCall (ground (declared C) F) X x (enters q C.frame.me C.frame.env gs) w (C.oracle (enters q C.frame.me C.frame.env gs) w)

-- control goes from a line by what it is among the lines of its procedure
pub record IsAimed (C : Context) (f : Form) : Type 0 where
  pub all : List Step
  pub number : ℕ
  pub aims : C.aims ≡ aims_at all number (step_of f)

-- a covered, flat and well-typed line of a procedure at which its frame stands, in its block
pub record IsAt (C : Context) (l : Line) : Type 0 where
  pub lines : List Line
  pub are_lines : slice_get C.runnable.program.bodies C.procedure ≡ Some lines
  pub stands : code_line C.runnable.program C.procedure C.frame.line ≡ Some l
  pub covers : is_flat_line C.runnable.program C.procedure l ≡ true
  pub part : covers_part C.runnable.program C.procedure l.source.form l.bindings.exprs (head_line lines C.aims.own) ≡ true
  pub extents : has_extents C.runnable.program ≡ true
  pub typed : is_typed_line (declared C) l ≡ true
  pub suited : Each (IsSuited C.runnable) (line_uses l)
  pub aimed : IsAimed C l.source.form
