-- What becomes of variables of user types, of their fields, and of variables of classes in frames and memories that match.
use Rattle.std.specs.Prelude.{◌≡◌, ℕ, true, None, Some}
use Rattle.vb_tree.specs.BoundTree.{Ty}
use Rattle.bound_tree.specs.Tree.{typed, Term}
use Rattle.net_tree.specs.Tree as net_tree
use Rattle.run_base.specs.Positions.{Key, Position, Root, made, whole}
use Rattle.vb6_run.specs.Expressions as source
use Rattle.vb6_run.specs.Forms.{SourceLine}
use Rattle.vb6_run.specs.Programs.{lay_if_blank}
use Rattle.vb6_run.specs.Shapes.{Shape, variable_shape}
use Rattle.vb6_run.specs.Store.{Address, root, Locked, SourceCalls, SourceFrame, make, make_with, read, write}
use Rattle.vb6_run.specs.Values.{Value}
use Rattle.net_run.specs.Expressions as target
use Rattle.net_run.specs.Lines.{NetFrame, NetLine, scope_of}
use Rattle.net_run.specs.Making.{Jobs}
use Rattle.net_run.specs.Members.{Code}
use Rattle.net_run.specs.Program.{made_once}
use Rattle.net_run.specs.Shapes as shape
use Rattle.net_run.specs.Store as net
use Rattle.net_run.specs.Values as net_value
use Rattle.written_trees.specs.Exprs.{exp_of}
use Rattle.written_trees.specs.Names.{Scope}
use Rattle.run_matches.specs.Addresses.{IsPlain, IsTarget, Same}
use Rattle.run_matches.specs.Agreeing.{Agrees}
use Rattle.run_matches.specs.CoveredExprs.{Uses, covers_place, covers_group}
use Rattle.run_matches.specs.Frames.{FrameMatch, HasPlace}
use Rattle.run_matches.specs.Kinds.{IsValueOf}
use Rattle.run_matches.specs.Likeness.{LikeV, SameShape}
use Rattle.run_matches.specs.Maps.{World, moved}
use Rattle.run_matches.specs.Match.{MemoryMatch}
use Rattle.run_matches.specs.Pledges.{Later, Pledge}
use Rattle.run_matches.specs.SoundShapes.{IsSoundShape}
use Rattle.run_matches.specs.Upgrades.{Upgrade, variable_key}
use Rattle.run_statements.specs.Frames.{AnyUnits, AreReadable, ArePlaced, IsGroup, MayChange, context_of, AllCalled, IsOpen, demands, type_shape, IsStaticRoot}
use Rattle.run_matches.specs.Formed.{is_formed}
use Rattle.run_matches.specs.Runs.{CallsAgree}
use Rattle.run_statements.specs.Written.{Passes}

-- ---- values

-- a value of a shape, and one that stands for it
abbrev pub ValueMatch : Upgrade → Shape → World → Value → net_value.Value → Type 0
ValueMatch U s w x y = IsValueOf s x × LikeV U w x y

-- ---- places

-- the images of a place of a user type, none of whose declarations carries an issue, or of a class
pub record PlaceMatch (U : Upgrade) (K : Pledge) (ty : Ty) (w : World) (a : Address) (b : net.Address) : Type 0 where
  pub position : Position
  pub stands : a ≡ root (type_shape U ty) position
  pub sound : IsSoundShape U (type_shape U ty)
  pub same : Same U K w a b
  pub target : IsTarget U a
  pub plain : IsPlain U w a

-- the address of a covered place
abbrev pub PlacesAgree : Upgrade → Type 1
PlacesAgree U =
    (K : Pledge) (w : World) (p : ℕ) (f : SourceFrame) (g : NetFrame) (oracle : SourceCalls) (net_oracle : Jobs) (l : SourceLine) (k : NetLine) (c : Code)
    (T : Scope) (uses : Uses) (ty : Ty) (t : Term) → MemoryMatch U w → FrameMatch U K w p f g → T.declarations ≡ U.program.declarations
    → AreReadable U T uses → ArePlaced U p f (scope_of U.written c g k) T uses
    → AllCalled (demands U K p l k (scope_of U.written c g k) T) (typed ty t) → covers_place uses (typed ty t) ≡ true
    → Agrees U K w (PlaceMatch U K ty)
    (source.address_of (context_of U oracle p f l) (typed ty t) w.src)
    (target.address_of (scope_of U.written c g k) net_oracle (exp_of T (typed ty t)) w.net)

-- a user type or an object as a value: of a place, what a Function gives, or Nothing
abbrev pub GroupsAgree : Upgrade → Type 1
GroupsAgree U =
    (K : Pledge) (w : World) (p : ℕ) (f : SourceFrame) (g : NetFrame) (oracle : SourceCalls) (net_oracle : Jobs) (l : SourceLine) (k : NetLine) (c : Code)
    (T : Scope) (uses : Uses) (ty : Ty) (t : Term) → MemoryMatch U w → FrameMatch U K w p f g → T.declarations ≡ U.program.declarations
    → IsOpen (scope_of U.written c g k) → AreReadable U T uses → ArePlaced U p f (scope_of U.written c g k) T uses → CallsAgree U (Passes U) oracle net_oracle
    → AllCalled (demands U K p l k (scope_of U.written c g k) T) (typed ty t) → covers_group uses (typed ty t) ≡ true
    → is_formed (typed ty t) ≡ true
    → Agrees U K w (ValueMatch U (type_shape U ty))
    (source.value_of (context_of U oracle p f l) (typed ty t) w.src)
    (target.value_of (scope_of U.written c g k) net_oracle (exp_of T (typed ty t)) w.net)

-- ---- reading and writing

-- a variable of a shape is read, as a whole
abbrev pub GroupsAreRead : Upgrade → Type 1
GroupsAreRead U =
    (K : Pledge) (w : World) (s : Shape) (q : Position) (b : net.Address) → IsSoundShape U s → MemoryMatch U w → Same U K w (root s q) b
    → Agrees U K w (ValueMatch U s) (read (root s q) w.src) (target.read b w.net)

-- a variable of a shape is given a value of that shape, which matched at an earlier world
abbrev pub GroupsAreWritten : Upgrade → Type 1
GroupsAreWritten U =
    (K : Pledge) (w : World) (s : Shape) (q : Position) (b : net.Address) (locked : Locked) (x : Value) (y : net_value.Value) → IsSoundShape U s
    → MemoryMatch U w → Same U K w (root s q) b → IsTarget U (root s q) → MayChange K (root s q) → ValueMatch U s w x y
    → Agrees U K w AnyUnits (write locked x (root s q) w.src) (net.written b y w.net)

-- ---- what is made

-- a new variable of each side
pub record GroupMade (U : Upgrade) (K : Pledge) (v : ℕ) (d : shape.Shape) (w : World) (a : Address) (b : net.Address) : Type 0 where
  pub place : HasPlace U w v a
  pub same : Same U K w a b
  pub target_shape : (n : ℕ) × (b ≡ net.root d (whole (made n)))

-- a local variable is made on both sides
abbrev pub GroupsAreMade : Upgrade → Type 1
GroupsAreMade U =
    (K : Pledge) (w : World) (v : ℕ) (ty : Ty) (r : IsGroup U v ty) (d : shape.Shape) → SameShape U (variable_shape U.program.declarations v) d
    → MemoryMatch U w
    → Agrees U K w (GroupMade U K v d)
    (make (variable_shape U.program.declarations v) w.src)
    (net.made_with d (shape.default_of d) w.net)

-- a parameter is made with a value that matched at an earlier world
abbrev pub GroupsAreGiven : Upgrade → Type 1
GroupsAreGiven U =
    (K : Pledge) (w0 w : World) (v : ℕ) (ty : Ty) (r : IsGroup U v ty) (d : shape.Shape) (x : Value) (y : net_value.Value)
    → SameShape U (variable_shape U.program.declarations v) d → Later U K w0 w → ValueMatch U (variable_shape U.program.declarations v) w0 x y
    → Agrees U K w (GroupMade U K v d)
    (make_with (variable_shape U.program.declarations v) x w.src)
    (net.made_with d y w.net)

-- a Static is made on both sides where none is there yet
abbrev pub StaticGroupsAreLaid : Upgrade → Type 1
StaticGroupsAreLaid U =
    (K : Pledge) (w : World) (v : ℕ) (ty : Ty) (r : IsGroup U v ty) (home : ℕ) (key : Key) (d : net_tree.Variable) (place : Root) → IsStaticRoot w v place
    → MemoryMatch U w
    → variable_key U v ≡ Some key → ((u : ℕ) → variable_key U u ≡ Some key → v ≡ u) → d.value ≡ None
    → SameShape U (variable_shape U.program.declarations v) (shape.shape_of U.written home d.ty)
    → Agrees U K w AnyUnits
    (lay_if_blank (variable_shape U.program.declarations v) place (w.src.held (whole place)) w.src)
    (made_once U.written home (moved U w.map place) d (w.net.cell (whole (moved U w.map place))) w.net)
