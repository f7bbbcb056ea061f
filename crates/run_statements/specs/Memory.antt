-- What becomes of arrays and of their elements in memories that match.
use Rattle.std.specs.Prelude.{◌≡◌, true, ℕ, Bool, List, length, replicate}
use Rattle.vb_tree.specs.BoundTree.{Ty}
use Rattle.vb_tree.specs.declared.value.Value6.{Value6}
use Rattle.run_base.specs.Outcomes.{then}
use Rattle.vb6_run.specs.Expressions as source
use Rattle.vb6_run.specs.Store.{Locked, write, Address}
use Rattle.vb6_run.specs.Values.{scalar, Dimension}
use Rattle.net_run.specs.Expressions as target
use Rattle.net_run.specs.Names as net_names
use Rattle.net_run.specs.Store as net
use Rattle.net_run.specs.Values as net_value
use Rattle.run_matches.specs.Agreeing.{Agrees}
use Rattle.run_matches.specs.CoveredVariables.{covers_type}
use Rattle.run_matches.specs.Likeness.{LikeV, SameShape, counts_of}
use Rattle.run_matches.specs.Maps.{World}
use Rattle.run_matches.specs.Match.{MemoryMatch}
use Rattle.run_matches.specs.Pledges.{IsOld, Pledge}
use Rattle.run_matches.specs.Upgrades.{Upgrade}
use Rattle.run_statements.specs.Frames.{AnyUnits, ElementMatch, ArrayMatch, MayChange}
use Rattle.vb6_run.specs.Arrays as arrays
use Rattle.vb6_run.specs.Arrays.{Lows}
use Rattle.vb6_run.specs.Shapes.{simple}
use Rattle.net_run.specs.Lines.{redimmed}
use Rattle.net_run.specs.Shapes as shape
use Rattle.run_matches.specs.Addresses.{AllLocked}

-- a scalar is written to an element behind the last check of its index, where the pledge lets the array change
abbrev pub ElementsAreWritten : Upgrade → Type 1
ElementsAreWritten U =
    (K : Pledge) (w : World) (locked : Locked) (ty : Ty) (x : source.Parts) (ps : net_names.Parts) (z : Value6) (y : net_value.Value)
    → covers_type ty ≡ true → MemoryMatch U w → (m : ElementMatch U ty w x (net_names.found_at ps)) → (K.steady → IsOld K m.position.root → ⊥)
    → LikeV U w (scalar ty z) y
    → Agrees U K w AnyUnits
    (then (source.finished x w.src) (write locked (scalar ty z)))
    (then (target.finished ps w.net) (λ b t. net.written b y t))

-- ---- arrays

-- the pledge lets arrays of elements of a type be made anew, so that none of them is locked
abbrev pub MayResize : Pledge → (element : Ty) → Type 0
MayResize K element = K.keeps element → ⊥

-- an array is made anew with as many dimensions as it has, and one that keeps its elements with one
abbrev pub ArraysAreResized : Upgrade → Type 1
ArraysAreResized U =
    (K : Pledge) (w : World) (element : Ty) (rank : ℕ) (a : Address) (b : net.Address) (locked : Locked) (lows : Lows) (preserve : Bool) (dims : List Dimension)
    → covers_type element ≡ true → MemoryMatch U w → ArrayMatch U K element rank w a b → AllLocked U K w locked → MayResize K element → MayChange K a
    → length dims ≡ rank → (preserve ≡ true → length dims ≡ 1)
    → Agrees U K w AnyUnits (arrays.resize locked lows preserve dims a w.src) (redimmed preserve (counts_of dims) b w.net)

-- an array is erased: in the target it becomes one of its rank without elements
abbrev pub ArraysAreErased : Upgrade → Type 1
ArraysAreErased U =
    (K : Pledge) (w : World) (element : Ty) (rank : ℕ) (a : Address) (b : net.Address) (locked : Locked) (d : shape.Shape) → covers_type element ≡ true
    → MemoryMatch U w → ArrayMatch U K element rank w a b → AllLocked U K w locked → MayResize K element → MayChange K a → SameShape U (simple element) d
    → Agrees U K w AnyUnits (arrays.erase locked a w.src) (then (net.array_made d (replicate rank 0) w.net) (λ v t. net.written b v t))
