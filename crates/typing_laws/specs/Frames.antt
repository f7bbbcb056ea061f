-- Memories and frames in which each scalar of a covered type holds a value of its type, each array of such a type elements of it, and each user type
-- fields that do.
use Rattle.std.specs.Prelude.{◌≡◌, ◌⊎◌, ℕ, suc, ◌≤◌, Bool, true, false, List, [], ◌∷◌, Option, Some, None, slice_get, is_some, nat_le, ◌&&◌, ◌||◌}
use Rattle.vb_tree.specs.BoundTree as types
use Rattle.vb_tree.specs.BoundTree.{Ty}
use Rattle.vb_tree.specs.declared.declared.Owner.{Owner}
use Rattle.vb_tree.specs.declared.declared.Owner.TheVariants as owner
use Rattle.vb_tree.specs.declared.declared.VarId.{VarId}
use Rattle.vb_tree.specs.Tree.{Form}
use Rattle.vb_tree.specs.Tree as source
use Rattle.bound_tree.specs.Tree.{Variable, Procedure, Declarations, Program, Expr}
use Rattle.bound_tree.specs.Tree as tree
use Rattle.bound_facts.specs.Node.{type_at}
use Rattle.written_trees.specs.Arguments.{is_reference_owner}
use Rattle.run_base.specs.Frames.{by_value, by_address, Kept, keeps_nothing, keeps_limit, keeps_value, keeps_address}
use Rattle.run_base.specs.Machines.{line_at, nth_line}
use Rattle.std.specs.List.{list_any}
use Rattle.run_base.specs.Positions.{Root, shared, made, field, Position, inner, is_same_path, is_same_position, is_same_root, whole}
use Rattle.vb6_run.specs.Forms.{SourceLine}
use Rattle.vb6_run.specs.Programs.{is_module_variable, machine_of}
use Rattle.vb6_run.specs.Runnables.{Runnable, declarations_of, variable_address}
use Rattle.vb6_run.specs.Shapes.{Shape, simple, group, array, endless, Shapes, no_shapes, next_shape, variable_shape}
use Rattle.vb6_run.specs.Store.{Address, blank, root, item, item_in, constant, Memory, SourceFrame, SourceGiven}
use Rattle.vb6_run.specs.Values.{Value}
use Rattle.run_matches.specs.CoveredVariables.{belongs_to, is_loud}
use Rattle.run_matches.specs.Maps.{IsMade, mark}
use Rattle.run_matches.specs.Pledges.{type_of_shape}
use Rattle.run_matches.specs.UserTypes.{is_user}
use Rattle.typing_laws.specs.Flat.{is_flat}
use Rattle.typing_laws.specs.Plain.{Holds, IsShapeOf, IsValue, IsValueOf}

-- ---- places

-- which positions may be written to
abbrev pub Footprint : Type 0
Footprint = Position → Bool

abbrev pub anywhere : Footprint
anywhere q = true

-- declarations with a footprint
pub record Ground : Type 0 where
  pub declarations : Declarations
  pub footprint : Footprint

abbrev pub ground : Declarations → Footprint → Ground
ground D F = record { declarations = D; footprint = F }

-- a position of the footprint that was made and holds what a variable of a type does
pub record Stands (K : Ground) (w : Memory) (q : Position) (ty : Ty) : Type 0 where
  pub holds : Holds ty (w.held q)
  pub made : IsMade (mark w) q.root
  pub allowed : K.footprint q ≡ true

-- where a variable of a standard module or a Static of a procedure in one stands
abbrev pub shared_place : (variable : ℕ) → Position
shared_place v = whole (shared (v ∷ []))

abbrev pub is_static : Owner → Bool
is_static (owner.Static p) = true
is_static _ = false

-- what stands at the parts of a place of a shape
abbrev mutual
  pub Inside : Ground → Memory → Shape → Position → Type 0
  Inside K w (simple ty) q = Unit {0}
  Inside K w (group t fs) q = AreInside K w fs q 0
  Inside K w (array e bounds) q = Unit {0}
  Inside K w endless q = Unit {0}

  pub AreInside : Ground → Memory → Shapes → Position → (field : ℕ) → Type 0
  AreInside K w no_shapes q k = Unit {0}
  AreInside K w (next_shape s rest) q k = Stands K w (inner q k) (type_of_shape s) × Inside K w s (inner q k) × AreInside K w rest q (suc k)

-- a variable stands at a place, and so do its parts
abbrev pub Fills : Ground → Memory → Position → Ty → Shape → Type 0
Fills K w q ty d = Stands K w q ty × Inside K w d q

-- nothing is held at a place, nor at its parts where it is one of a user type
pub record IsUnlaid (w : Memory) (q : Position) (ty : Ty) : Type 0 where
  pub whole : w.held q ≡ blank
  pub parts : is_user ty ≡ true → (path : List ℕ) → w.held (record { root = q.root; path = path }) ≡ blank

-- a Static holds nothing until its procedure is entered
abbrev pub MayStand : Ground → Memory → (variable : ℕ) → Variable → Type 0
MayStand K w v x = IsUnlaid w (shared_place v) x.ty ⊎ Fills K w (shared_place v) x.ty (variable_shape K.declarations v)

-- a variable of a standard module or a Static, or a part of one of a user type
abbrev pub IsPartOf : (variable : ℕ) → Ty → Position → Type 0
IsPartOf v ty q = (q ≡ shared_place v) ⊎ ((is_user ty ≡ true) × (q.root ≡ (shared_place v).root))

-- where a Static may be made now
pub record IsBlankStatic (K : Ground) (w : Memory) (q : Position) : Type 0 where
  pub number : ℕ
  pub variable : Variable
  pub is_variable : slice_get K.declarations.vars number ≡ Some variable
  pub static : is_static variable.owner ≡ true
  pub flat : is_flat K.declarations variable ≡ true
  pub place : IsPartOf number variable.ty q
  pub is_blank : w.held q ≡ blank

-- ---- memories

-- Each scalar, each array of scalars and each variable of a user type of a standard module holds what it is declared for, and each Static that or
-- nothing. The footprint has their positions, and all that isn't made yet.
pub record IsSound (K : Ground) (w : Memory) : Type 0 where
  pub modules :
      (v : ℕ) (x : Variable) → slice_get K.declarations.vars v ≡ Some x → is_module_variable K.declarations x.owner ≡ true → is_flat K.declarations x ≡ true
      → Fills K w (shared_place v) x.ty (variable_shape K.declarations v)
  pub statics :
      (v : ℕ) (x : Variable) → slice_get K.declarations.vars v ≡ Some x → is_static x.owner ≡ true → is_flat K.declarations x ≡ true → MayStand K w v x
  pub shares : (v : ℕ) → K.footprint (shared_place v) ≡ true
  pub fresh : (n : ℕ) → w.next ≤ n → K.footprint (whole (made n)) ≡ true
  -- where there are user types, also their parts
  pub shared_parts :
      (v : ℕ) (x : Variable) → slice_get K.declarations.vars v ≡ Some x → is_user x.ty ≡ true → (path : List ℕ)
      → K.footprint (record { root = shared (v ∷ []); path = path }) ≡ true
  pub fresh_parts :
      (v : ℕ) (x : Variable) → slice_get K.declarations.vars v ≡ Some x → is_user x.ty ≡ true → (n : ℕ) (path : List ℕ) → w.next ≤ n
      → K.footprint (record { root = made n; path = path }) ≡ true

-- Between two memories each position of the footprint that holds a scalar of a covered type goes on to hold one of the same type, and each
-- that holds an array of such elements goes on to hold one, allocated or not; what holds a user type goes on to do so. What else was made holds
-- what it held, but for Statics that are made now.
pub record Keeps (K : Ground) (w v : Memory) : Type 0 where
  pub places : (q : Position) (ty : Ty) → Stands K w q ty → Stands K v q ty
  pub statics :
      (k : ℕ) (x : Variable) → slice_get K.declarations.vars k ≡ Some x → is_static x.owner ≡ true → is_flat K.declarations x ≡ true
      → MayStand K w k x → MayStand K v k x
  pub others :
      (q : Position) → IsMade (mark w) q.root → ((ty : Ty) → Stands K w q ty → ⊥) → (IsBlankStatic K w q → ⊥) → v.held q ≡ w.held q
  pub next : w.next ≤ v.next
  pub objects : v.next_object ≡ w.next_object
  pub classes : v.class_of ≡ w.class_of

-- ---- frames

-- an element of an array of scalars of a type; the array may have been made anew without it
abbrev pub IsElement : Ground → Memory → Ty → (element : Shape) → (array : Position) → (path : List ℕ) → Type 0
IsElement K w ty e q path = (e ≡ simple ty) × (path ≡ []) × Stands K w q (types.array ty 0)

-- the array has no such element any more
abbrev pub IsGone : Address → Memory → Type 0
IsGone (root d q) w = ⊥
IsGone (item e q j path) w = item_in (w.held q) j path ≡ None
IsGone (constant y) w = ⊥

-- An address at which a variable stands: a position; an element to which a parameter by reference is bound; or a value, to which a quiet
-- one is bound.
abbrev pub IsPlace : Program → Footprint → Memory → (variable : ℕ) → Variable → Address → Type 0
IsPlace P F w v x (root d q) = IsShapeOf P.declarations x.ty d × Fills (ground P.declarations F) w q x.ty d
IsPlace P F w v x (item e q j path) = (is_reference_owner x.owner ≡ true) × IsElement (ground P.declarations F) w x.ty e q path
IsPlace P F w v x (constant y) = (is_loud P v (Some x) ≡ false) × IsValue x.ty y

-- each flat variable of a procedure stands at an address of the frame
abbrev pub HasOwn : Program → Footprint → (procedure : ℕ) → Memory → SourceFrame → Type 0
HasOwn P F p w f =
    (v : ℕ) (x : Variable) → slice_get P.declarations.vars v ≡ Some x → belongs_to p x.owner ≡ true → is_flat P.declarations x ≡ true
    → (a : Address) × (variable_address P.declarations f v ≡ Some a) × IsPlace P F w v x a

-- what a For keeps of its counter: the address, the limit and the step; a Select Case keeps its value
abbrev pub IsLimit : Ground → Memory → Ty → Kept Value Address → Type 0
IsLimit K w ty keeps_nothing = Unit {0}
IsLimit K w ty (keeps_limit (root d q) y s) = (d ≡ simple ty) × Stands K w q ty × IsValue ty y × IsValue ty s
IsLimit K w ty (keeps_limit (item e q j path) y s) = ⊥
IsLimit K w ty (keeps_limit (constant x) y s) = ⊥
IsLimit K w ty (keeps_value x) = ⊥
IsLimit K w ty (keeps_address a) = ⊥

abbrev pub IsChoice : Ty → Kept Value Address → Type 0
IsChoice ty keeps_nothing = Unit {0}
IsChoice ty (keeps_limit a y s) = ⊥
IsChoice ty (keeps_value x) = IsValue ty x
IsChoice ty (keeps_address a) = ⊥

-- the counter of a For, and what a Select Case compares
abbrev pub counter_of : Form → List Expr → Option Expr
counter_of (source.for_head counter start limit step) (e ∷ es) = Some e
counter_of f es = None

abbrev pub choice_of : Form → List Expr → Option Expr
choice_of (source.select choice) (e ∷ es) = Some e
choice_of f es = None

-- what the head of a block keeps, if it has kept anything
pub record IsKeptBy (K : Ground) (w : Memory) (f : Form) (es : List Expr) (k : Kept Value Address) : Type 0 where
  pub limit : (e : Expr) → counter_of f es ≡ Some e → IsLimit K w (type_at e) k
  pub choice : (e : Expr) → choice_of f es ≡ Some e → IsChoice (type_at e) k

abbrev pub numbered : Option (List tree.Line) → (line : ℕ) → Option tree.Line
numbered None n = None
numbered (Some lines) n = nth_line lines n

-- the code line of a procedure by its number
abbrev pub code_line : Program → (procedure line : ℕ) → Option tree.Line
code_line P p n = numbered (slice_get P.bodies p) n

-- a frame whose variables stand, whose heads keep what they do, and whose error, if one is handled, was at a line
pub record IsTypedFrame (F : Footprint) (R : Runnable) (p : ℕ) (w : Memory) (f : SourceFrame) : Type 0 where
  pub own : HasOwn R.program F p w f
  pub kept : (h : ℕ) (m : tree.Line) → code_line R.program p h ≡ Some m → IsKeptBy (ground (declarations_of R) F) w m.source.form m.bindings.exprs (f.kept h)
  pub error : f.active ≡ true → (l : SourceLine) × (line_at (machine_of R) p f.resume ≡ Some l)

-- ---- calls

-- a value of the parameter's type; or, by reference, the address of a variable that holds what the parameter stands for, or of an element
abbrev pub IsGiven : Ground → Memory → Option Variable → SourceGiven → Type 0
IsGiven K w None g = ⊥
IsGiven K w (Some y) (by_value x) = IsValueOf K.declarations y.ty x
IsGiven K w (Some y) (by_address (root d q)) = (is_reference_owner y.owner ≡ true) × IsShapeOf K.declarations y.ty d × Fills K w q y.ty d
IsGiven K w (Some y) (by_address (item e q j path)) = (is_reference_owner y.owner ≡ true) × IsElement K w y.ty e q path
IsGiven K w (Some y) (by_address (constant x)) = ⊥

-- one argument for each parameter
abbrev pub AreGiven : Ground → Memory → List VarId → List SourceGiven → Type 0
AreGiven K w [] [] = Unit {0}
AreGiven K w (v ∷ vs) (g ∷ gs) = IsGiven K w (slice_get K.declarations.vars v.0) g × AreGiven K w vs gs
AreGiven K w [] (g ∷ gs) = ⊥
AreGiven K w (v ∷ vs) [] = ⊥

-- a Function gives a value of its type
abbrev pub IsReturned : Declarations → Procedure → Option Value → Type 0
IsReturned D x None = is_some x.answer ≡ false
IsReturned D x (Some y) = IsValueOf D x.result y

-- ---- footprints of runs

-- shared, or not made yet
abbrev pub is_open : (next : ℕ) → Root → Bool
is_open next (shared k) = true
is_open next (made n) = nat_le next n
is_open next (field o k) = false

-- a path of fields that goes on from an outer one
abbrev pub goes_on_from : (outer path : List ℕ) → Bool
goes_on_from p [] = is_same_path p []
goes_on_from p (k ∷ q) = is_same_path p (k ∷ q) || goes_on_from p q

-- the place of a variable of a shape, with its parts where it is a user type
abbrev pub is_place_of : Shape → (place : Position) → Position → Bool
is_place_of (group t fs) r q = is_same_root r.root q.root && goes_on_from r.path q.path
is_place_of d r q = is_same_position r q

abbrev pub is_given_at : Position → SourceGiven → Bool
is_given_at q (by_value x) = false
is_given_at q (by_address (root d r)) = is_place_of d r q
is_given_at q (by_address (item e r j path)) = is_same_position r q
is_given_at q (by_address (constant x)) = false

-- A run may write to variables of modules and Statics, to what it makes, and to what it is given by reference.
abbrev pub footprint_of : Memory → List SourceGiven → Footprint
footprint_of w gs q = is_open w.next q.root || list_any (is_given_at q) gs
