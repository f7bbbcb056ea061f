-- When stores of the written program stand for those of the source.
use Rattle.std.specs.Prelude.{◌≡◌, ◌⊎◌, ℕ, ◌<◌, ◌^◌, Bool, false, Option, Some, None, List, [], ◌∷◌, length, slice_get}
use Rattle.vb_tree.specs.BoundTree.{Ty}
use Rattle.vb_tree.specs.declared.declared.Owner.{Owner}
use Rattle.vb_tree.specs.declared.declared.Owner.TheVariants as owner
use Rattle.vb_tree.specs.declared.value.Value6.{Value6}
use Rattle.bound_tree.specs.Tree.{Variable, Declarations}
use Rattle.bound_facts.specs.Members.{class_files, terminator}
use Rattle.net_meaning.specs.declared.value.ValueN.{ValueN}
use Rattle.net_meaning.specs.declared.value.ValueN.TheVariants as n
use Rattle.net_meaning.specs.ValueMatch.{Matches}
use Rattle.run_base.specs.Positions.{Position, Root, field, shared, whole}
use Rattle.vb6_run.specs.Programs.{is_module_variable}
use Rattle.vb6_run.specs.Shapes.{Shape, variable_shape}
use Rattle.vb6_run.specs.Store.{Held, blank, single, table, parts}
use Rattle.vb6_run.specs.Values.{Dimension, Values}
use Rattle.net_run.specs.Store as net
use Rattle.run_matches.specs.Kinds.{AreKinds}
use Rattle.run_matches.specs.Upgrades.{Upgrade, class_home, is_flagged, is_that, part_variable}
use Rattle.run_matches.specs.Maps.{World, moved_at, mark, net_mark, IsUnmade, IsMatched, root_variable}
use Rattle.run_matches.specs.Likeness.{Numbers, numbers_of, ArrayLike}

-- what a position and a cell hold matches
pub data HeldLike (U : Upgrade) (N : Numbers) : Held → net.Cell → Type 0 where
  holds_blank : HeldLike U N blank net.blank
  holds_single : (ty : Ty) (x : Value6) (y : ValueN) → Matches N.same ty x y → HeldLike U N (single ty x) (net.holds y)
  holds_table : (e : Shape) (dims : List Dimension) (xs : Values) (k : ℕ) → ArrayLike U N e dims xs (N.arrays k)
      → HeldLike U N (table e dims xs) (net.holds (n.Array k))
  holds_parts : HeldLike U N parts net.structure

abbrev pub Holds : Upgrade → World → Held → net.Cell → Type 0
Holds U w h c = HeldLike U (numbers_of w) h c

-- an object is of the class that its class is written as, which has no Class_Terminate
abbrev pub SameClass : Upgrade → Option ℕ → Option ℕ → Type 0
SameClass U None None = Unit {0}
SameClass U None (Some home) = ⊥
SameClass U (Some c) None = ⊥
SameClass U (Some c) (Some home) = (class_home U c ≡ Some home) × (terminator U.program.declarations c ≡ None)

-- nothing stands at a root, nor in it
abbrev pub IsBlank : Root → (Position → Held) → Type 0
IsBlank r h = (path : List ℕ) → h (record { root = r; path = path }) ≡ blank

-- a variable holds what its declaration says, or isn't there yet
abbrev pub HeldAs : Declarations → (variable : ℕ) → (laid : Bool) → Root → (Position → Held) → Type 0
HeldAs D v laid r h = (IsBlank r h × (laid ≡ false)) ⊎ AreKinds (variable_shape D v) (whole r) h

-- a variable of the class of a number, of which each object has its own
abbrev pub is_class_variable : Declarations → (class : ℕ) → Owner → Bool
is_class_variable D c (owner.Module file) = is_that file (slice_get (class_files D.project) c)
is_class_variable D c (owner.Local p) = false
is_class_variable D c (owner.Static p) = false
is_class_variable D c (owner.Value p) = false
is_class_variable D c (owner.Reference p) = false
is_class_variable D c (owner.Answer p) = false
is_class_variable D c (owner.Field t) = false

-- The target's store stands for the source's under the map: it maps what was made to what was made, one to one, and objects to objects of
-- their class; what is compared matches, and no two positions share an array. Nothing stands where nothing was made.
pub record StoreMatch (U : Upgrade) (w : World) : Type 0 where
  pub into : (a : ℕ) → a < w.src.next → w.map.alone a ≡ false → w.map.places a < w.net.next
  pub one_to_one :
      (a b : ℕ) → a < w.src.next → b < w.src.next → w.map.alone a ≡ false → w.map.alone b ≡ false → w.map.places a ≡ w.map.places b → a ≡ b
  pub objects_into : (o : ℕ) → o < w.src.next_object → w.map.objects o < w.net.next_object
  pub objects_one_to_one : (a b : ℕ) → a < w.src.next_object → b < w.src.next_object → w.map.objects a ≡ w.map.objects b → a ≡ b
  pub classes : (o : ℕ) → o < w.src.next_object → SameClass U (w.src.class_of o) (w.net.class_of (w.map.objects o))
  pub values : (q : Position) → IsMatched U w q → Holds U w (w.src.held q) (w.net.cell (moved_at U w.map q))
  pub apart :
      (p q : Position) (k : ℕ) → IsMatched U w p → IsMatched U w q → w.net.cell (moved_at U w.map p) ≡ net.holds (n.Array k)
      → w.net.cell (moved_at U w.map q) ≡ net.holds (n.Array k) → p ≡ q
  pub known : (q : Position) (k : ℕ) → IsMatched U w q → w.net.cell (moved_at U w.map q) ≡ net.holds (n.Array k) → k < w.net.next_array
  -- where the declaration is known, an array has its rank, allocated or not
  pub ranks :
      (q : Position) (v u k : ℕ) → IsMatched U w q → root_variable w.map q.root ≡ Some v → part_variable U v q.path ≡ Some u
      → w.net.cell (moved_at U w.map q) ≡ net.holds (n.Array k) → length (w.net.arrays k).counts ≡ U.facts.rank u
  pub short : (k : ℕ) → length (w.net.arrays k).elements < 2 ^ 31
  pub unmade : (q : Position) → IsUnmade (mark w.src) q.root → w.src.held q ≡ blank
  pub net_unmade : (q : Position) → IsUnmade (net_mark w.net) q.root → w.net.cell q ≡ net.blank
  pub errors : w.net.err ≡ w.src.err
  -- a variable of a standard module holds what its declaration says, and so does a Static that was made
  pub kinds :
      (v : ℕ) (x : Variable) → slice_get U.program.declarations.vars v ≡ Some x → is_flagged U v ≡ false
      → HeldAs U.program.declarations v (is_module_variable U.program.declarations x.owner) (shared (v ∷ [])) w.src.held
  -- and so does each object of the variables of its class, and of Statics there that were made
  pub fields :
      (o c v : ℕ) (x : Variable) → o < w.src.next_object → w.src.class_of o ≡ Some c → slice_get U.program.declarations.vars v ≡ Some x
      → is_flagged U v ≡ false
      → HeldAs U.program.declarations v (is_class_variable U.program.declarations c x.owner) (field o (v ∷ [])) w.src.held

-- the stores match, as many steps are left, and the same inputs are to come
pub record MemoryMatch (U : Upgrade) (w : World) : Type 0 where
  pub stores : StoreMatch U w
  pub steps : w.net.left ≡ w.src.left
  pub inputs : w.net.inputs ≡ w.src.inputs

-- ---- arrays that no position has

-- an array of the target that stands in none of the cells that are compared: only a value on its way, or a place that stands alone, has it
abbrev pub IsLoose : Upgrade → World → (array : ℕ) → Type 0
IsLoose U w k = (q : Position) → IsMatched U w q → w.net.cell (moved_at U w.map q) ≡ net.holds (n.Array k) → ⊥

-- at a position stands an array of elements of a shape, and in its cell the array of a number
pub record HasArray (U : Upgrade) (w : World) (q : Position) (e : Shape) (k : ℕ) : Type 0 where
  pub dims : List Dimension
  pub values : Values
  pub held : w.src.held q ≡ table e dims values
  pub cell : w.net.cell (moved_at U w.map q) ≡ net.holds (n.Array k)

-- the array at a position of the target has a rank
abbrev pub HasRank : Upgrade → World → Position → (rank : ℕ) → Type 0
HasRank U w q rank = (k : ℕ) × (w.net.cell (moved_at U w.map q) ≡ net.holds (n.Array k)) × (length (w.net.arrays k).counts ≡ rank)
