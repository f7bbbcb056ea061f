-- Arrays of scalars that are made in memories that match.
use Rattle.std.specs.Prelude.{◌≡◌, ℕ, ℤ, Some, List}
use Rattle.vb_tree.specs.BoundTree.{Ty}
use Rattle.net_tree.specs.Tree as net_tree
use Rattle.net_tree.specs.Types.{TypeName}
use Rattle.run_base.specs.Outcomes.{then}
use Rattle.run_base.specs.Positions.{Key, Root, made, whole}
use Rattle.vb6_run.specs.Programs.{lay_if_blank}
use Rattle.vb6_run.specs.Shapes.{variable_shape}
use Rattle.vb6_run.specs.Store.{Address, make}
use Rattle.net_run.specs.Program.{made_once}
use Rattle.net_run.specs.Shapes as shape
use Rattle.net_run.specs.Store as net
use Rattle.net_run.specs.Structures.{initial_value}
use Rattle.written_trees.specs.Prologues.{extents}
use Rattle.run_matches.specs.Addresses.{Same}
use Rattle.run_matches.specs.Agreeing.{Agrees}
use Rattle.run_matches.specs.Frames.{HasPlace}
use Rattle.run_matches.specs.Likeness.{scalar_word}
use Rattle.run_matches.specs.Maps.{World, moved}
use Rattle.run_matches.specs.Match.{MemoryMatch}
use Rattle.run_matches.specs.Pledges.{Pledge}
use Rattle.run_matches.specs.Upgrades.{Upgrade, variable_key}
use Rattle.run_statements.specs.Frames.{AnyUnits, IsArray, IsStaticRoot}

-- ---- what is written

-- an array variable has the rank of its declaration
abbrev pub array_shape : Upgrade → (variable : ℕ) → TypeName → shape.Shape
array_shape U v t = shape.array (shape.scalar t) (U.facts.rank v)

-- what it begins with: the elements of a fixed array, and none of a dynamic one
abbrev pub array_initial : Upgrade → (variable : ℕ) → TypeName → (bounds : List (ℤ × ℤ)) → net_tree.Exp
array_initial U v t bounds = net_tree.new_array t (extents (U.facts.rank v) bounds)

-- ---- what is made

-- a new array variable of each side
pub record ArrayMade (U : Upgrade) (K : Pledge) (v : ℕ) (t : TypeName) (w : World) (a : Address) (b : net.Address) : Type 0 where
  pub place : HasPlace U w v a
  pub same : Same U K w a b
  pub target_shape : (n : ℕ) × (b ≡ net.root (array_shape U v t) (whole (made n)))

-- a local array is made on both sides, under a pledge
abbrev pub ArraysAreMadeBy : Upgrade → Pledge → Type 0
ArraysAreMadeBy U K =
    (w : World) (v : ℕ) (element : Ty) (r : IsArray U v element) (t : TypeName) (home : ℕ) → (U.facts.rank v ≡ 0 → ⊥) → scalar_word element ≡ Some t
    → shape.shape_of U.written home t ≡ shape.scalar t → MemoryMatch U w
    → Agrees U K w (ArrayMade U K v t)
    (make (variable_shape U.program.declarations v) w.src)
    (then (initial_value U.written home (array_shape U v t) (Some (array_initial U v t r.known.variable.bounds)) w.net)
    (λ x w. net.made_with (array_shape U v t) x w))

abbrev pub ArraysAreMade : Upgrade → Type 1
ArraysAreMade U = (K : Pledge) → ArraysAreMadeBy U K

-- a Static array is made on both sides where none is there yet
abbrev pub StaticArraysAreLaidBy : Upgrade → Pledge → Type 0
StaticArraysAreLaidBy U K =
    (w : World) (v : ℕ) (element : Ty) (r : IsArray U v element) (t : TypeName) (home : ℕ) (key : Key) (d : net_tree.Variable) (place : Root)
    → IsStaticRoot w v place → (U.facts.rank v ≡ 0 → ⊥) → scalar_word element ≡ Some t → shape.shape_of U.written home t ≡ shape.scalar t → MemoryMatch U w → variable_key U v ≡ Some key
    → ((u : ℕ) → variable_key U u ≡ Some key → v ≡ u) → d.value ≡ Some (array_initial U v t r.known.variable.bounds)
    → shape.shape_of U.written home d.ty ≡ array_shape U v t
    → Agrees U K w AnyUnits
    (lay_if_blank (variable_shape U.program.declarations v) place (w.src.held (whole place)) w.src)
    (made_once U.written home (moved U w.map place) d (w.net.cell (whole (moved U w.map place))) w.net)

abbrev pub StaticArraysAreLaid : Upgrade → Type 1
StaticArraysAreLaid U = (K : Pledge) → StaticArraysAreLaidBy U K
