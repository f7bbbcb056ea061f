-- What the laws on runs need of declarations, names, memories and lines.
use Rattle.std.specs.Prelude.{◌≡◌, ℕ, suc, Bool, true, false, Option, Some, None, slice_get, List}
use Rattle.std.specs.List.{Contains}
use Rattle.vb_tree.specs.BoundTree as types
use Rattle.vb_tree.specs.BoundTree.{Ty}
use Rattle.vb_tree.specs.declared.declared.ProcKind.TheVariants as kind
use Rattle.bound_tree.specs.Tree.{Expr, Line, Procedure, Variable}
use Rattle.bound_facts.specs.Clean.{IsClean}
use Rattle.run_base.specs.Machines.{nth_line, go}
use Rattle.bound_facts.specs.Facts.{AreFacts, is_quiet}
use Rattle.bound_facts.specs.Parts.{line_uses}
use Rattle.net_tree.specs.Tree as net_tree
use Rattle.net_tree.specs.Types.{TypeName}
use Rattle.run_base.specs.Positions.{Key, Position, Root, whole}
use Rattle.vb6_run.specs.Shapes.{Shape, simple, variable_shape}
use Rattle.vb6_run.specs.Store.{make, SourceGiven, make_with, read, root}
use Rattle.vb6_run.specs.Values.{Value}
use Rattle.vb6_run.specs.Programs as source
use Rattle.vb6_run.specs.Programs.{lay_if_blank}
use Rattle.net_run.specs.Calls.{result_shape_of}
use Rattle.net_run.specs.Expressions as expressions
use Rattle.net_run.specs.Members.{code_at}
use Rattle.net_run.specs.Program as target
use Rattle.net_run.specs.Program.{made_once}
use Rattle.net_run.specs.Shapes as shape
use Rattle.net_run.specs.Store as net
use Rattle.net_run.specs.Values as net_value
use Rattle.run_matches.specs.Addresses.{Same}
use Rattle.run_matches.specs.Agreeing.{Agrees}
use Rattle.run_matches.specs.CleanLines.{IsCleanLine, lines_at}
use Rattle.written_trees.specs.Bodies.{inside_procedure}
use Rattle.written_trees.specs.Facts.{is_array_variable}
use Rattle.written_trees.specs.Heads.{is_function}
use Rattle.written_trees.specs.Types.{type_with}
use Rattle.run_matches.specs.CoveredVariables.{belongs_to, covers_declared, covers_group_type, covers_user, has_extents, is_loud}
use Rattle.run_matches.specs.CoveredExprs.{has_result_type, uses_in}
use Rattle.run_matches.specs.CoveredLines.{covers_line}
use Rattle.run_matches.specs.Covered.{IsCoveredLine, covers_procedure}
use Rattle.run_matches.specs.JoinedProperties.{is_joined}
use Rattle.run_matches.specs.Likeness.{scalar_word, LikeV, SameShape}
use Rattle.run_matches.specs.Maps.{Mark, World, moved}
use Rattle.run_matches.specs.Match.{MemoryMatch}
use Rattle.run_matches.specs.Pledges.{Later, NetGiven, Pledge}
use Rattle.run_matches.specs.Runs.{CallsAgree, call_pledge}
use Rattle.run_matches.specs.Sites.{Site, site_of}
use Rattle.run_matches.specs.SoundShapes.{IsSoundShape}
use Rattle.run_matches.specs.Upgrades.{Upgrade, home_of, runnable_of, variable_key, written_number}
use Rattle.run_statements.specs.Fitting.{FitsLine, FitsNode}
use Rattle.run_statements.specs.Arrays.{ArraysAreMadeBy, StaticArraysAreLaidBy}
use Rattle.run_statements.specs.Frames.{AnyUnits, AreReadable, IsGroup, IsReadable, IsStaticRoot, IsUsable, MadeMatch, type_shape}
use Rattle.run_statements.specs.Groups.{GroupMade, ValueMatch}
use Rattle.run_statements.specs.Kept.{IsUnreplaced, LabelsAreFound, LinesAgree, LinesAreWritten, NamesAreOpen, OwnsAreKept, NoFurtherLines, StoresAreOwn, UsesArePlaced, CalleesAreFound, MethodsAreFound}
use Rattle.run_statements.specs.Written.{ProceduresAreWritten, WrittenProcedure, Passes, site_scope}
use Rattle.memory_laws.specs.Statements.{AutosAreMadeBy, StaticAutosAreLaidBy}
use Rattle.name_laws.specs.Objects.{AutosAreFound, ClassesAreFound, InitializersAreFound, NothingInitializes}

-- ---- clean procedures that are covered

abbrev pub OwnsOfClean : Upgrade → Type 0
OwnsOfClean U =
    (p : ℕ) (s : Site) (x : Procedure) → site_of U.program.declarations p ≡ Some s → slice_get U.program.declarations.procs p ≡ Some x
    → (W : WrittenProcedure U p s x) → IsClean U.program U.facts.marks p → covers_procedure U.program p ≡ true → OwnsAreKept U p s x W

abbrev pub CleanAreUnreplaced : Upgrade → Type 0
CleanAreUnreplaced U =
    (p : ℕ) (s : Site) (x : Procedure) → site_of U.program.declarations p ≡ Some s → slice_get U.program.declarations.procs p ≡ Some x
    → (W : WrittenProcedure U p s x) → IsClean U.program U.facts.marks p → covers_procedure U.program p ≡ true → (k : ℕ) → IsUnreplaced U p s k

-- the variables that their lines use
abbrev pub CleanUsesAreReadable : Upgrade → Type 0
CleanUsesAreReadable U =
    (p : ℕ) (s : Site) (x : Procedure) → site_of U.program.declarations p ≡ Some s → slice_get U.program.declarations.procs p ≡ Some x
    → (W : WrittenProcedure U p s x) → IsClean U.program U.facts.marks p → covers_procedure U.program p ≡ true
    → (k : ℕ) (l : Line) → nth_line (lines_at U.program p) (suc k) ≡ Some l
    → AreReadable U (inside_procedure (site_scope U s) p) (uses_in U.program p l.bindings.mentions)

-- what is written for the variables that a line uses leads to what stands for them
abbrev pub CoveredUsesArePlaced : Upgrade → Type 0
CoveredUsesArePlaced U =
    (p : ℕ) (s : Site) (x : Procedure) → site_of U.program.declarations p ≡ Some s → slice_get U.program.declarations.procs p ≡ Some x
    → (W : WrittenProcedure U p s x) (l : Line)
    → AreReadable U (inside_procedure (site_scope U s) p) (uses_in U.program p l.bindings.mentions) → UsesArePlaced U p s W.code l

-- a covered line of a steady procedure stores to what is its own
abbrev pub CoveredStoresAreOwn : Upgrade → Type 0
CoveredStoresAreOwn U =
    (p : ℕ) (x : Procedure) → slice_get U.program.declarations.procs p ≡ Some x → (k : ℕ) (l : Line)
    → nth_line (lines_at U.program p) (suc k) ≡ Some l → covers_line U.program p l ≡ true → StoresAreOwn U p l

-- what is changed, or given by reference, or a parameter of a procedure with an outward line, is seen to be no quiet parameter
abbrev pub LoudAreSeen : Upgrade → Type 0
LoudAreSeen U = (v : ℕ) → is_loud U.program v (slice_get U.program.declarations.vars v) ≡ true → is_quiet U.program.declarations U.known v ≡ false

-- what a clean procedure owns can be used where it is covered
abbrev pub OwnedAreUsable : Upgrade → Type 0
OwnedAreUsable U =
    (p v : ℕ) (x : Variable) → IsClean U.program U.facts.marks p → slice_get U.program.declarations.vars v ≡ Some x → belongs_to p x.owner ≡ true
    → covers_declared U.program.declarations x ≡ true → IsUsable U v

-- a local variable is made on both sides, under a pledge
abbrev pub LocalsAreMadeBy : Upgrade → Pledge → Type 0
LocalsAreMadeBy U K =
    (w : World) (v : ℕ) (r : IsReadable U v) (t : TypeName) → scalar_word r.variable.ty ≡ Some t → MemoryMatch U w
    → Agrees U K w (MadeMatch U K v r.variable.ty t)
    (make (variable_shape U.program.declarations v) w.src)
    (net.made_with (shape.scalar t) (shape.default_of (shape.scalar t)) w.net)

-- an array has a dimension
abbrev pub ArraysHaveRanks : Upgrade → Type 0
ArraysHaveRanks U = (v : ℕ) → is_array_variable (slice_get U.program.declarations.vars v) ≡ true → U.facts.rank v ≡ 0 → ⊥

-- so is a parameter with a value that matched
abbrev pub ValuesAreMadeBy : Upgrade → Pledge → Type 0
ValuesAreMadeBy U K =
    (w0 w : World) (v : ℕ) (r : IsReadable U v) (t : TypeName) (x : Value) (y : net_value.Value) → scalar_word r.variable.ty ≡ Some t
    → Later U K w0 w → LikeV U w0 x y
    → Agrees U K w (MadeMatch U K v r.variable.ty t)
    (make_with (variable_shape U.program.declarations v) x w.src)
    (net.made_with (shape.scalar t) y w.net)

-- so are variables of user types and of classes, and a Static one where none is there yet
abbrev pub GroupsAreMadeBy : Upgrade → Pledge → Type 0
GroupsAreMadeBy U K =
    (w : World) (v : ℕ) (ty : Ty) (r : IsGroup U v ty) (d : shape.Shape) → SameShape U (variable_shape U.program.declarations v) d → MemoryMatch U w
    → Agrees U K w (GroupMade U K v d)
    (make (variable_shape U.program.declarations v) w.src)
    (net.made_with d (shape.default_of d) w.net)

abbrev pub GroupsAreGivenBy : Upgrade → Pledge → Type 0
GroupsAreGivenBy U K =
    (w0 w : World) (v : ℕ) (ty : Ty) (r : IsGroup U v ty) (d : shape.Shape) (x : Value) (y : net_value.Value)
    → SameShape U (variable_shape U.program.declarations v) d → Later U K w0 w → ValueMatch U (variable_shape U.program.declarations v) w0 x y
    → Agrees U K w (GroupMade U K v d)
    (make_with (variable_shape U.program.declarations v) x w.src)
    (net.made_with d y w.net)

abbrev pub StaticGroupsAreLaidBy : Upgrade → Pledge → Type 0
StaticGroupsAreLaidBy U K =
    (w : World) (v : ℕ) (ty : Ty) (r : IsGroup U v ty) (home : ℕ) (key : Key) (d : net_tree.Variable) (place : Root) → IsStaticRoot w v place
    → MemoryMatch U w → variable_key U v ≡ Some key → ((u : ℕ) → variable_key U u ≡ Some key → v ≡ u) → d.value ≡ None
    → SameShape U (variable_shape U.program.declarations v) (shape.shape_of U.written home d.ty)
    → Agrees U K w AnyUnits
    (lay_if_blank (variable_shape U.program.declarations v) place (w.src.held (whole place)) w.src)
    (made_once U.written home (moved U w.map place) d (w.net.cell (whole (moved U w.map place))) w.net)

-- what is made on both sides under a pledge, and under those of calls
pub record MakesAlike (U : Upgrade) (K : Pledge) : Type 0 where
  pub scalars : LocalsAreMadeBy U K
  pub arrays : ArraysAreMadeBy U K
  pub groups : GroupsAreMadeBy U K
  pub autos : AutosAreMadeBy U K
  pub static_arrays : StaticArraysAreLaidBy U K
  pub static_groups : StaticGroupsAreLaidBy U K
  pub static_autos : StaticAutosAreLaidBy U K
  pub scalars_given : ValuesAreMadeBy U K
  pub groups_given : GroupsAreGivenBy U K

abbrev pub CallsMakeAlike : Upgrade → Type 0
CallsMakeAlike U =
    (p : ℕ) (base : Mark) (me : Option ℕ) (xs : List SourceGiven) (ys : List NetGiven) → MakesAlike U (call_pledge U p base me xs ys)

-- what is written for a user type or a class has its shape, and nothing for a variable of it to begin with
pub record GroupsAreWritten (U : Upgrade) : Type 0 where
  pub shaped :
      (ty : Ty) (home file rank : ℕ) (qualified : Bool) → covers_group_type U.program.declarations ty ≡ true → home_of U file ≡ Some home
      → SameShape U (type_shape U ty) (shape.shape_of U.written home (type_with U.program.declarations file qualified rank ty))
  pub unmade : (user_type : ℕ) → covers_user U.program.declarations user_type ≡ true → U.facts.is_made user_type ≡ false
  -- the module of a procedure is the one of its file
  pub homes : (p : ℕ) (s : Site) → site_of U.program.declarations p ≡ Some s → home_of U s.source_module.file ≡ Some s.home

-- a result variable is read on both sides, as a whole
abbrev pub GroupsAreReadBy : Upgrade → Pledge → Type 0
GroupsAreReadBy U K =
    (w : World) (s : Shape) (q : Position) (b : net.Address) → IsSoundShape U s → MemoryMatch U w → Same U K w (root s q) b
    → Agrees U K w (ValueMatch U s) (read (root s q) w.src) (expressions.read b w.net)

abbrev pub ResultsAreRead : Upgrade → Type 0
ResultsAreRead U =
    (p : ℕ) (base : Mark) (me : Option ℕ) (xs : List SourceGiven) (ys : List NetGiven) → GroupsAreReadBy U (call_pledge U p base me xs ys)

-- what the lines of a clean procedure use suits the ranks of arrays
abbrev pub CleanUsesFit : Upgrade → Type 0
CleanUsesFit U =
    (p k : ℕ) (l : Line) → IsClean U.program U.facts.marks p → nth_line (lines_at U.program p) (suc k) ≡ Some l
    → (d : Expr) → Contains (line_uses l) d → FitsNode U d

-- and what they make anew suits their lower bounds too
abbrev pub CleanResizesFit : Upgrade → Type 0
CleanResizesFit U =
    (p k : ℕ) (l : Line) → IsClean U.program U.facts.marks p → nth_line (lines_at U.program p) (suc k) ≡ Some l → FitsLine U p l

-- what gives objects of a class is written with that class
abbrev pub ResultsAreWritten : Upgrade → Type 0
ResultsAreWritten U =
    (q number : ℕ) → Passes U q → written_number U q ≡ Some number → (class : ℕ)
    → has_result_type (types.class class) (slice_get U.program.declarations.procs q) ≡ true
    → SameShape U (simple (types.class class)) (result_shape_of U.written (code_at U.written number))

-- ---- properties

-- a Get of a property whose first part gives a result is that part
abbrev pub GetsAreFirst : Upgrade → Type 0
GetsAreFirst U =
    (p : ℕ) (x f : Procedure) → slice_get U.program.declarations.procs p ≡ Some x → x.kind ≡ kind.Get → is_joined U.program.declarations p x ≡ true
    → slice_get U.program.declarations.procs x.first.0 ≡ Some f → is_function f.kind ≡ true → x.first.0 ≡ p

-- ---- lines by themselves

abbrev pub CleanLinesAreUnreplaced : Upgrade → Type 0
CleanLinesAreUnreplaced U =
    (p k : ℕ) (s : Site) → site_of U.program.declarations p ≡ Some s → IsCleanLine U.program U.facts.marks p (suc k)
    → IsCoveredLine U.program U.facts.marks p (suc k) → IsUnreplaced U p s k

abbrev pub LineUsesAreReadable : Upgrade → Type 0
LineUsesAreReadable U =
    (p k : ℕ) → IsCleanLine U.program U.facts.marks p (suc k) → (covered : IsCoveredLine U.program U.facts.marks p (suc k))
    → AreReadable U (inside_procedure (site_scope U covered.site) p) (uses_in U.program p covered.line.bindings.mentions)

abbrev pub LineUsesFit : Upgrade → Type 0
LineUsesFit U =
    (p k : ℕ) (l : Line) → IsCleanLine U.program U.facts.marks p (suc k) → nth_line (lines_at U.program p) (suc k) ≡ Some l
    → (d : Expr) → Contains (line_uses l) d → FitsNode U d

abbrev pub LineResizesFit : Upgrade → Type 0
LineResizesFit U =
    (p k : ℕ) (l : Line) → IsCleanLine U.program U.facts.marks p (suc k) → nth_line (lines_at U.program p) (suc k) ≡ Some l → FitsLine U p l

-- ---- new objects

-- classes are found by their names, and by those of the functions that make objects for As New variables; what is written for one begins its
-- objects by what is written for its Class_Initialize
pub record ObjectsBegin (U : Upgrade) : Type 0 where
  pub found : ClassesAreFound U
  pub autos : AutosAreFound U
  pub begins : InitializersAreFound U
  pub nothing : NothingInitializes U

-- ---- the whole

-- what lines by themselves need
pub record LinePremises (U : Upgrade) : Type 0 where
  pub procedures : ProceduresAreWritten U
  pub lines : LinesAreWritten U
  pub names : NamesAreOpen U
  pub agree : LinesAgree U
  pub unreplaced : CleanLinesAreUnreplaced U
  pub readable : LineUsesAreReadable U
  pub fits : LineUsesFit U
  pub resizes : LineResizesFit U
  pub placed : CoveredUsesArePlaced U
  pub stores : CoveredStoresAreOwn U
  pub known : AreFacts U.program U.known
  pub found : CalleesAreFound U
  pub methods : MethodsAreFound U
  pub results : ResultsAreWritten U
  pub objects : ObjectsBegin U
  pub calls : (n : ℕ) → CallsAgree U (Passes U) (go (source.machine_of (runnable_of U)) n) (go (target.machine_of U.written) n)

-- what runs need
pub record RunPremises (U : Upgrade) : Type 0 where
  pub procedures : ProceduresAreWritten U
  pub lines : LinesAreWritten U
  pub no_further : NoFurtherLines U
  pub labels : LabelsAreFound U
  pub names : NamesAreOpen U
  pub agree : LinesAgree U
  pub owns : OwnsOfClean U
  pub unreplaced : CleanAreUnreplaced U
  pub readable : CleanUsesAreReadable U
  pub fits : CleanUsesFit U
  pub resizes : CleanResizesFit U
  pub placed : CoveredUsesArePlaced U
  pub stores : CoveredStoresAreOwn U
  pub owned : OwnedAreUsable U
  pub known : AreFacts U.program U.known
  pub found : CalleesAreFound U
  pub methods : MethodsAreFound U
  pub results : ResultsAreWritten U
  pub objects : ObjectsBegin U
  pub makes : CallsMakeAlike U
  pub ranked : has_extents U.program ≡ true → ArraysHaveRanks U
  pub groups : GroupsAreWritten U
  pub read : ResultsAreRead U
  pub firsts : GetsAreFirst U
