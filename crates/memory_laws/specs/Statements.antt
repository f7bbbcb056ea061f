-- What becomes of scalar variables in memories that match: they are read, written and made; and how As New variables are made.
use Rattle.std.specs.Prelude.{◌≡◌, ℕ, Bool, true, false, Some, None}
use Rattle.vb_tree.specs.BoundTree.{Ty}
use Rattle.vb_tree.specs.declared.value.Value6.{Value6}
use Rattle.net_tree.specs.Tree as net_tree
use Rattle.run_base.specs.Positions.{Key, Position, Root, whole}
use Rattle.net_tree.specs.Types.{TypeName}
use Rattle.vb6_run.specs.Programs.{lay_if_blank}
use Rattle.vb6_run.specs.Shapes.{simple, variable_shape}
use Rattle.vb6_run.specs.Store as source
use Rattle.vb6_run.specs.Values.{scalar}
use Rattle.net_run.specs.Expressions as target
use Rattle.net_run.specs.Program.{made_once}
use Rattle.net_run.specs.Shapes as shape
use Rattle.net_run.specs.Store as net
use Rattle.net_run.specs.Values as net_value
use Rattle.run_matches.specs.Addresses.{Bound, IsScalarAt, Same, IsTarget}
use Rattle.run_matches.specs.Agreeing.{Agrees}
use Rattle.run_matches.specs.CoveredVariables.{covers_type}
use Rattle.run_matches.specs.Likeness.{LikeV, SameShape, scalar_word}
use Rattle.run_matches.specs.Maps.{World, moved}
use Rattle.run_matches.specs.Match.{MemoryMatch}
use Rattle.run_matches.specs.Pledges.{Pledge}
use Rattle.run_matches.specs.Upgrades.{Upgrade, variable_key, is_flagged}
use Rattle.run_statements.specs.Frames.{ScalarMatch, AnyUnits, IsAutoOf, IsReadable, IsStaticRoot, MadeMatch, MayChange}
use Rattle.run_statements.specs.Groups.{GroupMade}

-- ---- by a pledge

-- a variable of a covered type is read, by reference or as a value
abbrev pub VariablesAreReadBy : Upgrade → Pledge → Type 0
VariablesAreReadBy U K =
    (w : World) (exact : Bool) (a : source.Address) (b : net.Address) (ty : Ty) → covers_type ty ≡ true → MemoryMatch U w → Bound U K w exact a b
    → ((q : Position) × (a ≡ source.root (simple ty) q)) → Agrees U K w (ScalarMatch U ty) (source.read a w.src) (target.read b w.net)

-- A scalar is written to a variable that stands in a place, or to one of a standard module with a key of its own. A variable of an object
-- would need that those of its class are written with different keys.
abbrev pub ScalarsAreWrittenBy : Upgrade → Pledge → Type 0
ScalarsAreWrittenBy U K =
    (w : World) (a : source.Address) (b : net.Address) (locked : source.Locked) (ty : Ty) (z : Value6) (y : net_value.Value) → covers_type ty ≡ true
    → MemoryMatch U w → Same U K w a b → ((q : Position) × IsScalarAt ty a q) → IsTarget U a → MayChange K a
    → LikeV U w (scalar ty z) y → Agrees U K w AnyUnits (source.write locked (scalar ty z) a w.src) (net.written b y w.net)

-- a local variable is made
abbrev pub LocalsAreMadeBy : Upgrade → Pledge → Type 0
LocalsAreMadeBy U K =
    (w : World) (v : ℕ) (r : IsReadable U v) (t : TypeName) → scalar_word r.variable.ty ≡ Some t → MemoryMatch U w
    → Agrees U K w (MadeMatch U K v r.variable.ty t)
    (source.make (variable_shape U.program.declarations v) w.src)
    (net.made_with (shape.scalar t) (shape.default_of (shape.scalar t)) w.net)

-- an As New variable begins as Nothing on both sides
abbrev pub AutosAreMadeBy : Upgrade → Pledge → Type 0
AutosAreMadeBy U K =
    (w : World) (v class : ℕ) (r : IsAutoOf U v class) (d : shape.Shape) → SameShape U (variable_shape U.program.declarations v) d → MemoryMatch U w
    → Agrees U K w (GroupMade U K v d)
    (source.make (variable_shape U.program.declarations v) w.src)
    (net.made_with d (shape.default_of d) w.net)

-- so does a Static, where none is there yet
abbrev pub StaticAutosAreLaidBy : Upgrade → Pledge → Type 0
StaticAutosAreLaidBy U K =
    (w : World) (v class : ℕ) (r : IsAutoOf U v class) (home : ℕ) (key : Key) (d : net_tree.Variable) (place : Root) → IsStaticRoot w v place
    → MemoryMatch U w → variable_key U v ≡ Some key → ((u : ℕ) → variable_key U u ≡ Some key → v ≡ u) → d.value ≡ None
    → SameShape U (variable_shape U.program.declarations v) (shape.shape_of U.written home d.ty)
    → Agrees U K w AnyUnits
    (lay_if_blank (variable_shape U.program.declarations v) place (w.src.held (whole place)) w.src)
    (made_once U.written home (moved U w.map place) d (w.net.cell (whole (moved U w.map place))) w.net)

-- ---- by any pledge

abbrev pub VariablesAreRead : Upgrade → Type 1
VariablesAreRead U = (K : Pledge) → VariablesAreReadBy U K

abbrev pub AutosAreMade : Upgrade → Type 1
AutosAreMade U = (K : Pledge) → AutosAreMadeBy U K

abbrev pub StaticAutosAreLaid : Upgrade → Type 1
StaticAutosAreLaid U = (K : Pledge) → StaticAutosAreLaidBy U K

abbrev pub ScalarsAreWrittenInPlaces : Upgrade → Type 1
ScalarsAreWrittenInPlaces U = (K : Pledge) → ScalarsAreWrittenBy U K

-- variables whose declarations carry no issue stand in different places of the written project
abbrev pub KeysDiffer : Upgrade → Type 0
KeysDiffer U =
    (v u : ℕ) (key : Key) → variable_key U v ≡ Some key → variable_key U u ≡ Some key → is_flagged U v ≡ false → is_flagged U u ≡ false → v ≡ u
