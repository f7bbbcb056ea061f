-- What variables, expressions and assignments do in frames that match.
use Rattle.bound_facts.specs.Calls.{initialized}
use Rattle.bound_facts.specs.Nodes.{nodes_of_passed}
use Rattle.run_matches.specs.Keeping.{given_types}
use Rattle.std.specs.List.{list_all}
use Rattle.std.specs.Prelude.{◌≡◌, ◌⊎◌, ◌<◌, ◌||◌, ℕ, ℤ, Bool, true, false, Some, [], ◌∷◌, slice_get, None, zero, suc, nat_eq, List, length, Option}
use Rattle.vb_tree.specs.BoundTree as types
use Rattle.vb_tree.specs.BoundTree.{Ty, array}
use Rattle.vb_tree.specs.declared.declared.Owner.TheVariants as owner
use Rattle.std.specs.Map.{lookup}
use Rattle.vb_tree.specs.declared.bound.LibCall.{LibCall}
use Rattle.vb_tree.specs.declared.declared.ProcId.{ProcId}
use Rattle.vb_tree.specs.declared.declared.VarId.{VarId}
use Rattle.vb_tree.specs.declared.value.Value6.{Value6}
use Rattle.bound_tree.specs.Tree.{Variable, Expr, typed, Term, constant, variable, field, element, call, library, unary, binary, convert, new_object, me, with_object, err_number, err_raise, err_clear, is_same, loose, Object, no_object, of_object, Exprs, no_exprs, next_expr, Argument, by_value, by_reference, Passed, no_passed, next_passed, Line}
use Rattle.bound_facts.specs.Locks.{Keeps}
use Rattle.bound_facts.specs.Members.{class_files, field_of, initializer}
use Rattle.bound_facts.specs.Node.{auto_class, type_at, called}
use Rattle.net_tree.specs.declared.declaration.NetPassing.{NetPassing}
use Rattle.net_tree.specs.declared.declaration.NetPassing.TheVariants as passing
use Rattle.net_tree.specs.Tree.{call_of}
use Rattle.net_tree.specs.Types.{TypeName, named}
use Rattle.run_base.specs.Positions as positions
use Rattle.run_base.specs.Positions.{Key, Position, whole, made, shared}
use Rattle.vb6_run.specs.Expressions as source
use Rattle.vb6_run.specs.Expressions.{Context}
use Rattle.vb6_run.specs.Forms.{SourceLine}
use Rattle.bound_facts.specs.SelfMade.{module_of}
use Rattle.vb6_run.specs.Programs.{is_static_of}
use Rattle.vb6_run.specs.Runnables.{is_class_file}
use Rattle.vb6_run.specs.Shapes as source_shape
use Rattle.vb6_run.specs.Shapes.{Shape, shape_by, simple, user_shapes, variable_shape}
use Rattle.vb6_run.specs.Store.{Address, root, Locked, SourceCalls, SourceFrame, make, read, write, make_with}
use Rattle.vb6_run.specs.Values.{Value, scalar}
use Rattle.net_run.specs.Calls as net_calls
use Rattle.net_run.specs.Calls.{result_shape_of}
use Rattle.net_run.specs.Expressions as target
use Rattle.net_run.specs.Lines.{NetFrame, NetLine, scope_of}
use Rattle.net_run.specs.Making as making
use Rattle.net_run.specs.Making.{Jobs}
use Rattle.net_run.specs.Members.{Code, code_at, is_new}
use Rattle.net_run.specs.Names as net_names
use Rattle.net_run.specs.Shapes as shape
use Rattle.net_run.specs.Store as net
use Rattle.net_run.specs.Values as net_value
use Rattle.net_meaning.specs.declared.value.ValueN.TheVariants as n
use Rattle.written_trees.specs.Exprs.{callee_of, exp_of, passed_of}
use Rattle.written_trees.specs.Names.{Scope, auto_name, class_path, variable_path, procedure_name, procedure_path}
use Rattle.run_matches.specs.Addresses.{Same, IsPlain, IsScalarAt, IsTarget, SameIndexes, TakesValue}
use Rattle.run_matches.specs.Agreeing.{Agrees}
use Rattle.run_matches.specs.Formed.{passed_are_formed, is_formed}
use Rattle.run_matches.specs.CoveredVariables.{covers_auto_owner, covers_type, covers_group_type, covers_made, covers_variable, is_in_order, is_named_so, covers_user}
use Rattle.run_matches.specs.CoveredExprs.{Uses, IsUsed, covers_array, covers_expr, covers_exprs, covers_passed, covers_receiver, has_result_type, is_declared_as, is_giving, is_relied_on, is_taking}
use Rattle.run_matches.specs.Covered.{hands_passed, suits_passed, takes_address}
use Rattle.run_matches.specs.IndexArguments.{is_seen_quiet}
use Rattle.run_matches.specs.Inward.{is_inward_in}
use Rattle.run_matches.specs.SoundShapes.{IsField, IsSoundShape}
use Rattle.run_matches.specs.Frames.{FrameMatch, GivenAddress, HasPlace, IsOwnAddress, is_mirrored, is_own_of, is_reference_of, lines_of}
use Rattle.run_matches.specs.Likeness.{LikeV, SameShape, scalar_word}
use Rattle.run_matches.specs.Maps.{IsMatched, World, is_auto_root}
use Rattle.run_matches.specs.Match.{HasArray, MemoryMatch, is_class_variable}
use Rattle.run_matches.specs.Pledges.{Pledge, Later, is_inward, is_self_made, stands_in_class}
use Rattle.run_matches.specs.Upgrades.{Upgrade, class_home, runnable_of, is_flagged, variable_key, written_number}
use Rattle.row_laws.specs.Uncaptured.{IsUncaptured, IsTextUncaptured, IsMathUncaptured}
use Rattle.run_matches.specs.Runs.{CallsAgree}
use Rattle.run_statements.specs.Fitting.{FitsBounds, FitsRank, rank_of, FitsPassed}
use Rattle.run_statements.specs.Ways.{IsWay, Way, callee_by, passings_by}
use Rattle.run_statements.specs.Written.{Passes}
use Rattle.bound_tree.specs.Targets.{with_round}
use Rattle.run_base.specs.Machines.{nth_line, enters}
use Rattle.run_matches.specs.CoveredLines.{covers_line, is_with, keeps_by}
use Rattle.bound_tree.specs.declared.expression.Root.{Root}
use Rattle.run_base.specs.Outcomes.{Outcome, gives, then}

-- ---- variables

-- a variable that is no As New one, whose declaration carries no issue
pub record IsKnown (U : Upgrade) (v : ℕ) : Type 0 where
  pub variable : Variable
  pub is_variable : slice_get U.program.declarations.vars v ≡ Some variable
  pub plain : variable.auto ≡ false
  pub sound : is_flagged U v ≡ false

-- the bounds of a fixed array, as many as its rank, of which none ends before it begins
abbrev pub AreBounds : (rank : ℕ) → List (ℤ × ℤ) → Type 0
AreBounds rank [] = Unit {0}
AreBounds rank (b ∷ bounds) = (length (b ∷ bounds) ≡ rank) × (list_all is_in_order (b ∷ bounds) ≡ true)

-- an array of elements of a covered type, for which no value stands
pub record IsArray (U : Upgrade) (v : ℕ) (element : Ty) : Type 0 where
  pub known : IsKnown U v
  pub exact : is_mirrored U v ≡ false
  pub rank : ℕ
  pub is_array : known.variable.ty ≡ array element rank
  pub covers : covers_type element ≡ true
  pub bounds : AreBounds (U.facts.rank v) known.variable.bounds

-- the shape of a type of which no array is
abbrev pub type_shape : Upgrade → Ty → Shape
type_shape U ty = shape_by (user_shapes U.program.declarations) [] ty

-- a variable of a covered user type or class, for which no value stands
pub record IsGroup (U : Upgrade) (v : ℕ) (ty : Ty) : Type 0 where
  pub known : IsKnown U v
  pub exact : is_mirrored U v ≡ false
  pub is_type : known.variable.ty ≡ ty
  pub covers : covers_group_type U.program.declarations ty ≡ true
  pub sound : IsSoundShape U (type_shape U ty)

-- an As New variable of a class, whose declaration carries no issue
pub record IsAutoOf (U : Upgrade) (v class : ℕ) : Type 0 where
  pub variable : Variable
  pub is_variable : slice_get U.program.declarations.vars v ≡ Some variable
  pub is_auto : variable.auto ≡ true
  pub sound : is_flagged U v ≡ false
  pub is_type : variable.ty ≡ types.class class
  pub owner : covers_auto_owner variable.owner ≡ true
  pub covers : covers_group_type U.program.declarations (types.class class) ≡ true

-- A variable that objects of a class have: it is written as a member of the class, which is found by its name behind an object, and no other
-- variable is written as that member.
pub record IsMember (U : Upgrade) (class field : ℕ) (ty : Ty) : Type 0 where
  pub number : ℕ
  pub declares : field_of U.program.declarations (types.class class) field ≡ Some number
  pub known : IsKnown U number
  pub is_type : known.variable.ty ≡ ty
  pub in_class : is_class_variable U.program.declarations class known.variable.owner ≡ true
  pub home : ℕ
  pub is_home : class_home U class ≡ Some home
  pub key : Key
  pub is_key : variable_key U number ≡ Some key
  pub differs : (u : ℕ) → variable_key U u ≡ Some key → number ≡ u
  pub written : shape.Shape
  pub same : SameShape U (variable_shape U.program.declarations number) written
  pub leads :
      (S : net_names.Scope) (object : net_value.Value) → S.project ≡ U.written
      → net_names.named_member S (Some object) home known.variable.name ≡ net_names.found_at (net_names.at_field written object key)

-- a variable of a covered type, whose declaration carries no issue
pub record IsReadable (U : Upgrade) (v : ℕ) : Type 0 where
  pub variable : Variable
  pub is_variable : slice_get U.program.declarations.vars v ≡ Some variable
  pub covers : covers_variable variable ≡ true
  pub sound : is_flagged U v ≡ false

-- a scalar, an array of scalars, or of a user type or a class, also an As New one
abbrev pub IsUsable : Upgrade → (variable : ℕ) → Type 0
IsUsable U v =
    IsReadable U v ⊎ (((element : Ty) × IsArray U v element) ⊎ (((ty : Ty) × IsGroup U v ty) ⊎ ((class : ℕ) × IsAutoOf U v class)))

-- What is known of the variables that are used where a scope is written, which has the facts of the program.
pub record AreReadable (U : Upgrade) (T : Scope) (uses : Uses) : Type 0 where
  pub scalars : (v : VarId) → uses.scalar v ≡ true → IsReadable U v.0
  pub arrays : (v : VarId) (element : Ty) → uses.array v element ≡ true → IsArray U v.0 element
  pub groups : (v : VarId) (ty : Ty) → uses.group v ty ≡ true → IsGroup U v.0 ty
  pub autos :
      (v : VarId) (ty : Ty) → uses.auto v ty ≡ true
      → (class : ℕ) × (ty ≡ types.class class) × IsAutoOf U v.0 class × (covers_made U.program class ≡ true)
  pub fields : (user_type field : ℕ) (ty : Ty) → uses.field_type user_type field ≡ Some ty → IsField U user_type field ty
  pub made : (class : ℕ) → uses.made class ≡ true → covers_made U.program class ≡ true
  pub members : (class field : ℕ) (ty : Ty) → uses.member_type class field ≡ Some ty → IsMember U class field ty
  -- what a call may give is of a covered user type or class
  pub given : (ty : Ty) → uses.given ty ≡ true → covers_group_type U.program.declarations ty ≡ true
  -- a covered user type holds no array, so that what is written copies it with all that it holds
  pub flat : (user_type : ℕ) → covers_user U.program.declarations user_type ≡ true → U.facts.holds_array user_type ≡ false
  pub exact : (v : VarId) → uses.exact v ≡ true → is_mirrored U v.0 ≡ false
  pub facts : T.facts ≡ U.facts
  pub types : (v : VarId) (ty : Ty) → uses.is_of v ty ≡ true → is_declared_as ty (slice_get U.program.declarations.vars v.0) ≡ true
  pub gives : (q : ℕ) → uses.gives q ≡ true → is_giving (slice_get U.program.declarations.procs q) ≡ true
  pub takes :
      (q n : ℕ) (ty : Ty) → uses.takes q n ty ≡ true
      → (is_taking U.program.declarations n ty (slice_get U.program.declarations.procs q) ≡ true) × TakesValue U q n
  pub results : (q : ℕ) (ty : Ty) → uses.results q ty ≡ true → has_result_type ty (slice_get U.program.declarations.procs q) ≡ true
  pub inward : (q : ℕ) → uses.inward q ≡ true → is_inward U q ≡ true
  pub sees_inward : (q : ℕ) → is_inward_in U.program q ≡ true → uses.inward q ≡ true
  pub relied : (v : VarId) → uses.relied v ≡ true → is_relied_on U.program v.0 ≡ true

-- an array has the rank of its declaration
abbrev pub HasRankOf : Upgrade → (variable : ℕ) → shape.Shape → Type 0
HasRankOf U v (shape.array d rank) = rank ≡ U.facts.rank v
HasRankOf U v d = Unit {0}

-- A variable of a standard module is written as a member of a module, to which names lead where something is written, and no other variable
-- is written as that member.
pub record IsShared (U : Upgrade) (S : net_names.Scope) (T : Scope) (v : ℕ) : Type 0 where
  pub variable : Variable
  pub is_variable : slice_get U.program.declarations.vars v ≡ Some variable
  pub file : ℕ
  pub is_owner : variable.owner ≡ owner.Module file
  pub standard : is_class_file U.program.declarations file ≡ false
  pub key : Key
  pub is_key : variable_key U v ≡ Some key
  pub written : shape.Shape
  pub same : SameShape U (variable_shape U.program.declarations v) written
  pub ranked : HasRankOf U v written
  pub leads :
      (qualified : Bool) → net_names.path_start S false (variable_path T qualified v)
      ≡ net_names.starts (net_names.at_place (net.root written (whole (shared key)))) []
  pub differs : (u : ℕ) → variable_key U u ≡ Some key → v ≡ u

-- A Static of the procedure stands in its module, and no other variable is written with its key.
pub record IsOwnStatic (U : Upgrade) (p v : ℕ) : Type 0 where
  pub variable : Variable
  pub is_variable : slice_get U.program.declarations.vars v ≡ Some variable
  pub is_static : is_static_of p variable.owner ≡ true
  pub file : ℕ
  pub is_file : module_of (slice_get U.program.declarations.procs p) ≡ Some file
  pub differs : (key : Key) (u : ℕ) → variable_key U v ≡ Some key → variable_key U u ≡ Some key → v ≡ u

-- a parameter by reference, which the frame has bound to what can be written, or, where it is quiet, to what can be read
pub record IsGiven (U : Upgrade) (p : ℕ) (f : SourceFrame) (v : ℕ) : Type 0 where
  pub reference : is_reference_of U p v ≡ true
  pub stands : (a : Address) → lookup (nat_eq v) f.vars ≡ Some a → GivenAddress U v a

-- A variable of the procedure's class, of which each object has its own, is written as a member of the class, to which its name alone leads,
-- and no other variable is written as that member.
pub record IsOwnField (U : Upgrade) (p : ℕ) (S : net_names.Scope) (T : Scope) (v : ℕ) : Type 0 where
  pub variable : Variable
  pub is_variable : slice_get U.program.declarations.vars v ≡ Some variable
  pub file : ℕ
  pub is_owner : variable.owner ≡ owner.Module file
  pub is_class : is_class_file U.program.declarations file ≡ true
  pub own : module_of (slice_get U.program.declarations.procs p) ≡ Some file
  pub key : Key
  pub is_key : variable_key U v ≡ Some key
  pub written : shape.Shape
  pub same : SameShape U (variable_shape U.program.declarations v) written
  pub ranked : HasRankOf U v written
  pub leads : net_names.path_start S false (variable_path T false v) ≡ net_names.starts (net_names.own_field written key S.me) []
  pub differs : (u : ℕ) → variable_key U u ≡ Some key → v ≡ u

-- the procedure's own, a Static of it, one of a standard module, one that is given by reference, or one of its class
abbrev pub IsPlaced : Upgrade → (procedure : ℕ) → SourceFrame → net_names.Scope → Scope → (variable : ℕ) → Type 0
IsPlaced U p f S T v = (is_own_of U p v ≡ true) ⊎ (IsOwnStatic U p v ⊎ (IsShared U S T v ⊎ (IsGiven U p f v ⊎ IsOwnField U p S T v)))

-- what is written for an array leads to it before indexes too: it isn't the name of a Function in its own lines
abbrev pub LeadsBefore : net_names.Scope → Scope → (variable : ℕ) → Type 0
LeadsBefore S T v =
    (qualified : Bool) → net_names.path_start S true (variable_path T qualified v) ≡ net_names.path_start S false (variable_path T qualified v)

-- a procedure stands in a class, which is written
pub record StandsInClass (U : Upgrade) (p class : ℕ) : Type 0 where
  pub file : ℕ
  pub is_file : slice_get (class_files U.program.declarations.project) class ≡ Some file
  pub stands : module_of (slice_get U.program.declarations.procs p) ≡ Some file
  pub home : ℕ
  pub is_home : class_home U class ≡ Some home

-- what is written for the class is where something is written
pub record StandsHere (U : Upgrade) (S : net_names.Scope) (class : ℕ) : Type 0 where
  pub is_home : class_home U class ≡ Some S.home
  pub is_class : net_names.is_class S.project S.home ≡ true

pub record ArePlaced (U : Upgrade) (p : ℕ) (f : SourceFrame) (S : net_names.Scope) (T : Scope) (uses : Uses) : Type 0 where
  pub places : (v : VarId) → IsUsed uses v → IsPlaced U p f S T v.0
  pub leads : (v : VarId) (element : Ty) → uses.array v element ≡ true → LeadsBefore S T v.0
  pub me : (class : ℕ) → uses.me ≡ Some class → StandsInClass U p class
  pub here : (class : ℕ) → uses.me ≡ Some class → StandsHere U S class
  pub named : (v : VarId) (qualified : Bool) → uses.named v qualified ≡ true → is_named_so U.program.declarations v qualified ≡ true

-- ---- values

-- a scalar of a type, and one that stands for it
abbrev pub ScalarMatch : Upgrade → Ty → World → Value → net_value.Value → Type 0
ScalarMatch U ty w x y = (z : Value6) × (x ≡ scalar ty z) × LikeV U w (scalar ty z) y

-- the same without its type
abbrev pub PlainMatch : Upgrade → Ty → World → Value6 → net_value.Value → Type 0
PlainMatch U ty w z y = LikeV U w (scalar ty z) y

abbrev pub AnyUnits : World → Unit {0} → Unit {0} → Type 0
AnyUnits w u v = Unit {0}

-- ---- making and writing

-- in an object of a class, which was made
pub record IsObjectRoot (w : World) (variable : ℕ) (r : positions.Root) : Type 0 where
  pub object : ℕ
  pub is_made : object < w.src.next_object
  pub class : ℕ
  pub is_class : w.src.class_of object ≡ Some class
  pub stands : r ≡ positions.field object (variable ∷ [])

-- where a Static stands: in its standard module, or in an object
abbrev pub IsStaticRoot : World → (variable : ℕ) → positions.Root → Type 0
IsStaticRoot w v r = (r ≡ shared (v ∷ [])) ⊎ IsObjectRoot w v r

-- a new variable of each side: the places in which they stand are the next ones
pub record MadeMatch (U : Upgrade) (K : Pledge) (v : ℕ) (ty : Ty) (t : TypeName) (w : World) (a : Address) (b : net.Address) : Type 0 where
  pub place : HasPlace U w v a
  pub same : Same U K w a b
  pub source_shape : (n : ℕ) × (a ≡ root (simple ty) (whole (made n)))
  pub target_shape : (n : ℕ) × (b ≡ net.root (shape.scalar t) (whole (made n)))

-- a local variable is made on both sides
abbrev pub LocalsAreMade : Upgrade → Type 1
LocalsAreMade U =
    (K : Pledge) (w : World) (v : ℕ) (r : IsReadable U v) (t : TypeName) → scalar_word r.variable.ty ≡ Some t → MemoryMatch U w
    → Agrees U K w (MadeMatch U K v r.variable.ty t)
    (make (variable_shape U.program.declarations v) w.src)
    (net.made_with (shape.scalar t) (shape.default_of (shape.scalar t)) w.net)

-- a parameter is made with a value that matched at an earlier world
abbrev pub ValuesAreMade : Upgrade → Type 1
ValuesAreMade U =
    (K : Pledge) (w0 w : World) (v : ℕ) (r : IsReadable U v) (t : TypeName) (x : Value) (y : net_value.Value) → scalar_word r.variable.ty ≡ Some t
    → Later U K w0 w → LikeV U w0 x y
    → Agrees U K w (MadeMatch U K v r.variable.ty t)
    (make_with (variable_shape U.program.declarations v) x w.src)
    (net.made_with (shape.scalar t) y w.net)

-- a scalar is read of a variable, and of its image
abbrev pub ScalarsAreRead : Upgrade → Type 1
ScalarsAreRead U =
    (K : Pledge) (w : World) (a : Address) (b : net.Address) (ty : Ty) → covers_type ty ≡ true → MemoryMatch U w → Same U K w a b
    → ((q : Position) × (a ≡ root (simple ty) q)) → Agrees U K w (ScalarMatch U ty) (read a w.src) (target.read b w.net)

-- the pledge lets it change
abbrev pub MayChange : Pledge → Address → Type 0
MayChange K a = K.steady → IsOwnAddress K a

-- a scalar is written to a variable
abbrev pub ScalarsAreWritten : Upgrade → Type 1
ScalarsAreWritten U =
    (K : Pledge) (w : World) (a : Address) (b : net.Address) (locked : Locked) (ty : Ty) (z : Value6) (y : net_value.Value) → covers_type ty ≡ true
    → MemoryMatch U w → Same U K w a b → ((q : Position) × IsScalarAt ty a q) → IsTarget U a → MayChange K a → LikeV U w (scalar ty z) y
    → Agrees U K w AnyUnits (write locked (scalar ty z) a w.src) (net.written b y w.net)

-- ---- expressions

abbrev pub context_of : Upgrade → SourceCalls → (procedure : ℕ) → SourceFrame → SourceLine → Context
context_of U oracle p f l = record { runnable = runnable_of U; oracle = oracle; procedure = p; frame = f; aims = l.aims }

-- the names of functions that are written lead to them
pub record IsOpen (S : net_names.Scope) : Type 0 where
  pub support : IsUncaptured S
  pub texts : IsTextUncaptured S
  pub math : IsMathUncaptured S

-- ---- calls

-- what is demanded of calls with their arguments, of new objects and variables that may make one, of elements by their arrays and indexes, and of calls of the library that ask for bounds
pub record Demands : Type 1 where
  pub calls : (procedure : ℕ) → (qualified : Bool) → Object → Passed → Type 0
  pub news : (class : ℕ) → Type 0
  pub autos : (variable : ℕ) → Type 0
  pub elements : (array : Expr) → (indexes : Exprs) → Type 0
  pub bounds : LibCall → (arguments : Exprs) → Type 0
  pub withs : Ty → Root → Type 0

abbrev mutual
  -- what is demanded of each procedure that a covered expression calls, with its arguments, and of each use of an array
  pub AllCalled : Demands → Expr → Type 0
  AllCalled Q (typed ty t) = AllCalledIn Q ty t

  pub AllCalledIn : Demands → Ty → Term → Type 0
  AllCalledIn Q ty (constant x origin) = Unit {0}
  AllCalledIn Q ty (variable v qualified) = Q.autos v.0
  AllCalledIn Q ty (field e k) = AllCalled Q e
  AllCalledIn Q ty (element e indexes) = Q.elements e indexes × AllCalledAll Q indexes
  AllCalledIn Q ty (call p qualified of args) = Q.calls p.0 qualified of args × AllCalledFor Q args × AllCalledOf Q of
  AllCalledIn Q ty (library f args) = Q.bounds f args × AllCalledAll Q args
  AllCalledIn Q ty (unary op e) = AllCalled Q e
  AllCalledIn Q ty (binary op d e) = AllCalled Q d × AllCalled Q e
  AllCalledIn Q ty (convert to e) = AllCalled Q e
  AllCalledIn Q ty (new_object c) = Q.news c.0
  AllCalledIn Q ty me = Unit {0}
  AllCalledIn Q ty (with_object r) = Q.withs ty r
  AllCalledIn Q ty err_number = Unit {0}
  AllCalledIn Q ty (err_raise e) = AllCalled Q e
  AllCalledIn Q ty err_clear = Unit {0}
  AllCalledIn Q ty (is_same d e) = AllCalled Q d × AllCalled Q e
  AllCalledIn Q ty (loose e rules) = Unit {0}

  pub AllCalledOf : Demands → Object → Type 0
  AllCalledOf Q no_object = Unit {0}
  AllCalledOf Q (of_object e) = AllCalled Q e

  pub AllCalledAll : Demands → Exprs → Type 0
  AllCalledAll Q no_exprs = Unit {0}
  AllCalledAll Q (next_expr e rest) = AllCalled Q e × AllCalledAll Q rest

  pub AllCalledFor : Demands → Passed → Type 0
  AllCalledFor Q no_passed = Unit {0}
  AllCalledFor Q (next_passed a rest) = AllCalledBy Q a × AllCalledFor Q rest

  pub AllCalledBy : Demands → Argument → Type 0
  AllCalledBy Q (by_value e) = AllCalled Q e
  AllCalledBy Q (by_reference e) = AllCalled Q e

abbrev pub passing_at : List NetPassing → (place : ℕ) → NetPassing
passing_at modes zero = target.first_passing modes
passing_at modes (suc i) = passing_at (target.rest_passings modes) i

abbrev pub passing_by : (by_reference : Bool) → NetPassing
passing_by true = passing.Reference
passing_by false = passing.Value

abbrev pub IsOne : {X : Type 0} → List X → X → Type 0
IsOne [] x = ⊥
IsOne (y ∷ ys) x = (y ≡ x) ⊎ IsOne ys x

abbrev pub KeepsEach : Upgrade → (procedure : ℕ) → List Ty → Type 0
KeepsEach U q ts = (t : Ty) → IsOne ts t → Keeps U.program q t

abbrev pub NodesKeep : Upgrade → List Ty → List Expr → Type 0
NodesKeep U ts [] = Unit {0}
NodesKeep U ts (d ∷ ds) =
    (((q : ℕ) → called d ≡ Some q → KeepsEach U q ts) × ((q : ℕ) → initialized U.program.declarations d ≡ Some q → KeepsEach U q ts)) × NodesKeep U ts ds

-- The object of a call is one of the class in which the procedure stands. A call for no object goes on with that of the caller, which stands
-- in the same class, where the procedure that is called stands in one.
abbrev pub Receives : Upgrade → (caller callee : ℕ) → Object → Type 0
Receives U p q no_object =
    (stands_in_class U (module_of (slice_get U.program.declarations.procs q)) ≡ false)
    ⊎ (module_of (slice_get U.program.declarations.procs q) ≡ module_of (slice_get U.program.declarations.procs p))
Receives U p q (of_object e) = (class : ℕ) × (type_at e ≡ types.class class) × StandsInClass U q class

-- what is written for it is found by its name, behind an object as a member of its class
abbrev pub IsFound : Upgrade → net_names.Scope → Scope → Way → (callee number : ℕ) → (qualified : Bool) → Object → Type 0
IsFound U S T way q number qualified no_object =
    net_names.path_start S true (procedure_path T qualified q) ≡ net_names.starts (net_names.named (callee_by way None number)) []
IsFound U S T way q number qualified (of_object e) =
    (class home : ℕ) (object : net_value.Value) → type_at e ≡ types.class class → class_home U class ≡ Some home
    → net_names.named_member S (Some object) home (procedure_name T.declarations q) ≡ net_names.named (callee_by way (Some object) number)

-- A procedure that can be called with arguments from where something is written: it passes, and promises what is promised there; the
-- arguments suit its parameters; what is written for it takes them as it does, and is found by its name.
pub record CanCall (U : Upgrade) (K : Pledge) (S : net_names.Scope) (T : Scope) (p q : ℕ) (qualified : Bool) (of : Object) (args : Passed) : Type 0 where
  pub passes : Passes U q
  pub keeps : (ty : Ty) → K.keeps ty → Keeps U.program q ty
  pub inward : K.steady → is_inward U q ≡ true
  pub number : ℕ
  pub is_number : written_number U q ≡ Some number
  pub way : Way
  pub is_way : IsWay U S T way q qualified of args
  pub receives : Receives U p q of
  pub suits : suits_passed U.program.declarations q 0 args ≡ true
  pub hands : hands_passed U.program q 0 args ≡ true
  pub given : KeepsEach U q (given_types args)
  pub inside : NodesKeep U (given_types args) (nodes_of_passed args)
  pub ranks : FitsPassed U q 0 args
  -- all that goes to a part of a property goes by value
  pub passings : (i : ℕ) → passing_at (passings_by U.written way number) i ≡ passing_by (takes_address U.program.declarations q i)
  -- a parameter that is seen to be quiet is so, and its procedure is inward
  pub quiet : (i : ℕ) → is_seen_quiet U.program q i ≡ true → ((runnable_of U).quiet q i ≡ true) × (is_inward U q ≡ true)
  pub found : IsFound U S T way q number qualified of
  -- what gives objects of a class is written with that class
  pub result :
      (class : ℕ) → has_result_type (types.class class) (slice_get U.program.declarations.procs q) ≡ true
      → SameShape U (simple (types.class class)) (result_shape_of U.written (code_at U.written number))

-- ---- new objects

-- The Class_Initialize of a class can be called for a new object: it passes, and promises what is promised where the object is made.
pub record CanInitialize (U : Upgrade) (K : Pledge) (class q : ℕ) : Type 0 where
  pub passes : Passes U q
  pub keeps : (ty : Ty) → K.keeps ty → Keeps U.program q ty
  pub steady : K.steady → (is_inward U q || is_self_made U q) ≡ true
  pub number : ℕ
  pub is_number : written_number U q ≡ Some number
  pub stands : StandsInClass U q class

abbrev pub written_initialized : Upgrade → (home : ℕ) → Jobs → (object : ℕ) → net.Memory → Outcome net.Memory Unit
written_initialized U home oracle o w = making.initialized U.written oracle home o (shape.first_from is_new 0 (shape.members_of (shape.module_at U.written home))) w

-- What is written for a class calls what is written for its Class_Initialize, where it has one.
abbrev pub Initializes : Upgrade → Pledge → (class home : ℕ) → Option ℕ → Type 0
Initializes U K class home None = (oracle : Jobs) (o : ℕ) (w : net.Memory) → written_initialized U home oracle o w ≡ gives [] tt w
Initializes U K class home (Some q) =
    (can : CanInitialize U K class q) × ((oracle : Jobs) (o : ℕ) (w : net.Memory)
    → written_initialized U home oracle o w ≡ then (oracle (enters can.number (Some o) tt []) w) (λ x w. gives [] tt w))

-- A new object of a class can be made from where something is written: its name leads to the class.
pub record CanMake (U : Upgrade) (K : Pledge) (S : net_names.Scope) (T : Scope) (class : ℕ) : Type 0 where
  pub initializes : (home : ℕ) → class_home U class ≡ Some home → Initializes U K class home (initializer U.program.declarations class)
  pub leads :
      (home : ℕ) → class_home U class ≡ Some home → shape.shape_of S.project S.home (named (class_path T.declarations class)) ≡ shape.class home

-- the name of the function that makes an object for an As New variable says its class
abbrev pub LeadsToClass : Upgrade → net_names.Scope → Scope → (class : ℕ) → Type 0
LeadsToClass U S T class = (home : ℕ) → class_home U class ≡ Some home → net_calls.auto_class S.project (auto_name T.declarations class) ≡ shape.class home

-- so it is with an object that the use of an As New variable makes, by a function that is named for its class
abbrev pub CanMakeAt : Upgrade → Pledge → net_names.Scope → Scope → (variable : ℕ) → Type 0
CanMakeAt U K S T v =
    (class : ℕ) → auto_class (slice_get U.program.declarations.vars v) ≡ Some class → covers_made U.program class ≡ true
    → CanMake U K S T class × LeadsToClass U S T class

-- ---- arrays

-- a line stands in a covered With, which keeps what is of a type, and of this root
pub record StandsWithin (U : Upgrade) (p : ℕ) (l : SourceLine) (k : NetLine) (ty : Ty) (r : Root) : Type 0 where
  pub head : ℕ
  pub is_round : with_round l.aims ≡ Some head
  pub line : Line
  pub is_line : nth_line (lines_of U p) head ≡ Some line
  pub covers : covers_line U.program p line ≡ true
  pub is_head : is_with line.source.form ≡ true
  pub keeps : keeps_by line.bindings.exprs ty r ≡ true
  pub kind : covers_group_type U.program.declarations ty ≡ true
  -- and so does what is written for the line
  pub same_aims : k.aims ≡ l.aims

-- what is demanded where expressions of a line are written
abbrev pub demands : Upgrade → Pledge → (procedure : ℕ) → SourceLine → NetLine → net_names.Scope → Scope → Demands
demands U K p l k S T = record {
  calls = CanCall U K S T p;
  news = λ class. covers_made U.program class ≡ true → CanMake U K S T class;
  autos = λ v. CanMakeAt U K S T v;
  elements = FitsRank U;
  bounds = FitsBounds U;
  withs = StandsWithin U p l k;
}

-- An element of an array of scalars: the array is compared and stands on both sides, and its indexes are the same.
pub record ElementMatch (U : Upgrade) (ty : Ty) (w : World) (x : source.Parts) (r : net_names.Reached) : Type 0 where
  pub position : Position
  pub bounds : List (ℤ × ℤ)
  pub written : shape.Shape
  pub array : ℕ
  pub is_matched : IsMatched U w position
  pub plain : is_auto_root U w.map position.root ≡ false
  pub has : HasArray U w position (simple ty) array
  pub same : SameShape U (simple ty) written
  pub indexes : List ℤ
  pub net_indexes : List net_value.Value
  pub stands : x ≡ source.at_element (root (source_shape.array (simple ty) bounds) position) indexes
  pub net_stands : r ≡ net_names.found_at (net_names.at_element written (net_value.single (n.Array array)) net_indexes)
  pub same_indexes : SameIndexes has.dims indexes net_indexes
  pub counted : length (w.net.arrays array).counts ≡ length net_indexes

-- the images of an array variable of a rank
pub record ArrayMatch (U : Upgrade) (K : Pledge) (element : Ty) (rank : ℕ) (w : World) (a : Address) (b : net.Address) : Type 0 where
  pub bounds : List (ℤ × ℤ)
  pub position : Position
  pub stands : a ≡ root (source_shape.array (simple element) bounds) position
  pub same : Same U K w a b
  pub ranked : shape.rank_of (net.shape_at b) ≡ rank
  pub target : IsTarget U a
  pub plain : IsPlain U w a

-- A covered expression that is well formed and what is written for it give values that match, where calls of what it calls agree.
abbrev pub ExpressionsAgree : Upgrade → Type 1
ExpressionsAgree U =
    (K : Pledge) (w : World) (p : ℕ) (f : SourceFrame) (g : NetFrame) (oracle : SourceCalls) (net_oracle : Jobs) (l : SourceLine) (k : NetLine) (c : Code)
    (T : Scope) (uses : Uses) (e : Expr) → MemoryMatch U w → FrameMatch U K w p f g → T.declarations ≡ U.program.declarations
    → IsOpen (scope_of U.written c g k) → AreReadable U T uses → ArePlaced U p f (scope_of U.written c g k) T uses → CallsAgree U (Passes U) oracle net_oracle
    → AllCalled (demands U K p l k (scope_of U.written c g k) T) e → covers_expr uses e ≡ true → is_formed e ≡ true
    → Agrees U K w (ScalarMatch U (type_at e))
    (source.value_of (context_of U oracle p f l) e w.src)
    (target.value_of (scope_of U.written c g k) net_oracle (exp_of T e) w.net)

abbrev pub AnyParts : World → source.Parts → net.Address → Type 0
AnyParts w x a = Unit {0}

-- so a covered call is one on both sides, whatever it gives
abbrev pub CallsAreMade : Upgrade → Type 1
CallsAreMade U =
    (K : Pledge) (w : World) (p : ℕ) (f : SourceFrame) (g : NetFrame) (oracle : SourceCalls) (net_oracle : Jobs) (l : SourceLine) (k : NetLine) (c : Code)
    (T : Scope) (uses : Uses) (ty : Ty) (q : ProcId) (qualified : Bool) (of : Object) (args : Passed) → MemoryMatch U w → FrameMatch U K w p f g
    → T.declarations ≡ U.program.declarations → IsOpen (scope_of U.written c g k) → AreReadable U T uses → ArePlaced U p f (scope_of U.written c g k) T uses
    → CallsAgree U (Passes U) oracle net_oracle → AllCalled (demands U K p l k (scope_of U.written c g k) T) (typed ty (call q qualified of args))
    → uses.gives q.0 ≡ true → covers_receiver uses of ≡ true → covers_passed uses args ≡ true → passed_are_formed args ≡ true
    → Agrees U K w AnyParts
    (source.term_parts (context_of U oracle p f l) ty (call q qualified of args) w.src)
    (target.address_of (scope_of U.written c g k) net_oracle (call_of (callee_of T q.0 qualified of) (passed_of T q.0 0 args)) w.net)

-- the address of a covered array variable
abbrev pub ArraysAgree : Upgrade → Type 1
ArraysAgree U =
    (K : Pledge) (w : World) (p : ℕ) (f : SourceFrame) (g : NetFrame) (oracle : SourceCalls) (net_oracle : Jobs) (l : SourceLine) (k : NetLine) (c : Code)
    (T : Scope) (uses : Uses) (element : Ty) (rank : ℕ) (t : Term) → MemoryMatch U w → FrameMatch U K w p f g → T.declarations ≡ U.program.declarations
    → AreReadable U T uses → ArePlaced U p f (scope_of U.written c g k) T uses → covers_array uses (typed (array element rank) t) ≡ true
    → Agrees U K w (ArrayMatch U K element (rank_of U (typed (array element rank) t)))
    (source.address_of (context_of U oracle p f l) (typed (array element rank) t) w.src)
    (target.address_of (scope_of U.written c g k) net_oracle (exp_of T (typed (array element rank) t)) w.net)

-- an element of a covered array, before the last check of its index
abbrev pub ElementsAgree : Upgrade → Type 1
ElementsAgree U =
    (K : Pledge) (w : World) (p : ℕ) (f : SourceFrame) (g : NetFrame) (oracle : SourceCalls) (net_oracle : Jobs) (l : SourceLine) (k : NetLine) (c : Code)
    (T : Scope) (uses : Uses) (ty : Ty) (a : Expr) (indexes : Exprs) → MemoryMatch U w → FrameMatch U K w p f g → T.declarations ≡ U.program.declarations
    → IsOpen (scope_of U.written c g k) → AreReadable U T uses → ArePlaced U p f (scope_of U.written c g k) T uses → CallsAgree U (Passes U) oracle net_oracle
    → AllCalled (demands U K p l k (scope_of U.written c g k) T) (typed ty (element a indexes)) → covers_array uses a ≡ true → covers_exprs uses indexes ≡ true
    → is_formed (typed ty (element a indexes)) ≡ true
    → Agrees U K w (ElementMatch U ty)
    (source.term_parts (context_of U oracle p f l) ty (element a indexes) w.src)
    (target.reach (scope_of U.written c g k) net_oracle false (exp_of T (typed ty (element a indexes))) w.net)
