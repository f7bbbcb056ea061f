-- What a procedure promises while it runs, and what lasts from one pair of memories to a later one.
use Rattle.std.specs.Prelude.{◌≡◌, ℕ, ◌<◌, ◌≤◌, Bool, true, false, not, ◌&&◌, ◌||◌, cond, nat_eq, Option, Some, None, List, [], ◌∷◌, ◌++◌, slice_get}
use Rattle.vb_tree.specs.BoundTree.{Ty, user}
use Rattle.vb_tree.specs.BoundTree as types
use Rattle.bound_facts.specs.Locks.{Keeps}
use Rattle.bound_facts.specs.SelfMade.{module_of}
use Rattle.net_meaning.specs.declared.value.ValueN.TheVariants as n
use Rattle.run_base.specs.Frames.{Given, by_value, by_address}
use Rattle.run_base.specs.Positions.{Root, shared, made, field, Position}
use Rattle.vb6_run.specs.Runnables.{is_class_file}
use Rattle.vb6_run.specs.Shapes.{Shape, simple, group, array, endless}
use Rattle.vb6_run.specs.Store.{SourceGiven, blank}
use Rattle.net_run.specs.Store as net
use Rattle.net_run.specs.Values as net_value
use Rattle.run_matches.specs.Upgrades.{Upgrade}
use Rattle.run_matches.specs.Maps.{World, Mark, mark, net_mark, Below, IsMade, IsMatched, IsUnmapped, Extends, moved_at, is_auto_root, is_fixed_position}
use Rattle.run_matches.specs.Kinds.{KeepsKind}
use Rattle.run_matches.specs.Match.{MemoryMatch, IsLoose, HasArray, HasRank}

-- ---- what is a procedure's own

-- places that a frame has made for itself, and the object that an initializer fills
pub record Own : Type 0 where
  pub places : ℕ → Bool
  pub object : Option ℕ

abbrev pub is_that_object : Option ℕ → ℕ → Bool
is_that_object None o = false
is_that_object (Some p) o = nat_eq p o

abbrev pub is_own : Own → Root → Bool
is_own own (shared k) = false
is_own own (made n) = own.places n
is_own own (field o k) = is_that_object own.object o

abbrev pub no_places : ℕ → Bool
no_places n = false

-- ---- pledges

-- What is promised: arrays of elements of the types that are kept stay where they are; where it is steady, nothing changes that was there
-- at the mark base and isn't its own. An array that it was given in a value is its own from then on.
pub record Pledge : Type 1 where
  pub keeps : Ty → Type 0
  pub steady : Type 0
  pub base : Mark
  pub own : Own
  pub takes : (array : ℕ) → Type 0

-- there at the mark, and not its own
pub record IsOld (K : Pledge) (r : Root) : Type 0 where
  pub is_made : IsMade K.base r
  pub foreign : is_own K.own r ≡ false

-- A position that a steady procedure doesn't change. The use of an As New variable may set it, and nothing else reads one.
pub record IsLasting (U : Upgrade) (K : Pledge) (w : World) (q : Position) : Type 0 where
  pub steady : K.steady
  pub old : IsOld K q.root
  pub plain : is_auto_root U w.map q.root ≡ false

-- ---- what procedures promise

-- the type of the elements of an array, by which it is locked
abbrev pub type_of_shape : Shape → Ty
type_of_shape (simple ty) = ty
type_of_shape (group t fs) = user t
type_of_shape (array e bounds) = types.array (type_of_shape e) 0
type_of_shape endless = types.unknown

abbrev pub is_inward : Upgrade → (procedure : ℕ) → Bool
is_inward U p = not (U.known.outward p)

abbrev pub stands_in_class : Upgrade → Option ℕ → Bool
stands_in_class U None = false
stands_in_class U (Some file) = is_class_file U.program.declarations file

-- a procedure of a class that could be the initializer of a self-made one: it changes fields of its object and its own variables alone
abbrev pub is_self_made : Upgrade → (procedure : ℕ) → Bool
is_self_made U p = not (U.known.unplain p) && stands_in_class U (module_of (slice_get U.program.declarations.procs p))

-- an inward procedure changes no field of its object either
abbrev pub own_object : Upgrade → (procedure : ℕ) → (me : Option ℕ) → Option ℕ
own_object U p me = cond (is_inward U p) None (cond (is_self_made U p) me None)

abbrev pub pledge : Upgrade → (procedure : ℕ) → Mark → Own → (takes : ℕ → Type 0) → Pledge
pledge U p base own takes = record {
  keeps = Keeps U.program p;
  steady = (is_inward U p || is_self_made U p) ≡ true;
  base = base;
  own = own;
  takes = takes;
}

-- ---- what is still

abbrev pub owns_nothing : Own
owns_nothing = record { places = no_places; object = None }

-- nothing that is there changes
abbrev pub still : Pledge → World → Pledge
still K w = record { keeps = K.keeps; steady = Unit {0}; base = mark w.src; own = owns_nothing; takes = K.takes }

-- ---- arrays in values

abbrev mutual
  -- the numbers of the arrays in a value
  pub arrays_in : net_value.Value → List ℕ
  arrays_in net_value.unknown = []
  arrays_in (net_value.single (n.Array k)) = k ∷ []
  arrays_in (net_value.single y) = []
  arrays_in (net_value.fields ys) = arrays_in_all ys

  pub arrays_in_all : net_value.Values → List ℕ
  arrays_in_all net_value.no_values = []
  arrays_in_all (net_value.next_value y ys) = arrays_in y ++ arrays_in_all ys

abbrev pub NetGiven : Type 0
NetGiven = Given net_value.Value net.Address

-- the numbers of the arrays in values that are given as values on both sides
abbrev pub taken_by : List SourceGiven → List NetGiven → List ℕ
taken_by (by_value x ∷ xs) (by_value y ∷ ys) = arrays_in y ++ taken_by xs ys
taken_by (by_value x ∷ xs) (by_address b ∷ ys) = taken_by xs ys
taken_by (by_address a ∷ xs) (by_value y ∷ ys) = taken_by xs ys
taken_by (by_address a ∷ xs) (by_address b ∷ ys) = taken_by xs ys
taken_by xs ys = []

-- ---- what lasts

-- no pledge is needed for a fixed array
pub data Stays (U : Upgrade) (K : Pledge) (w : World) (q : Position) (e : Shape) : Type 0 where
  kept_type : K.keeps (type_of_shape e) → Stays U K w q e
  lasting : IsLasting U K w q → Stays U K w q e
  fixed_array : is_fixed_position U w.map q ≡ true → Stays U K w q e

-- something stands at a position; a Static is made when its procedure is first entered
abbrev pub IsHeld : World → Position → Type 0
IsHeld w q = w.src.held q ≡ blank → ⊥

-- The memories still match, the map was extended, and the promises were kept: whatever is compared keeps its rank, what stands alone on
-- either side and arrays that no compared position has are left as they are.
pub record Later (U : Upgrade) (K : Pledge) (w0 w : World) : Type 0 where
  pub match : MemoryMatch U w
  pub extends : Extends w0 w
  pub grows : Below (mark w0.src) (mark w.src)
  pub net_grows : Below (net_mark w0.net) (net_mark w.net)
  pub arrays_grow : w0.net.next_array ≤ w.net.next_array
  -- an object goes on to be of its class, and a position to hold a thing of its kind
  pub same_classes : (o : ℕ) → o < w0.src.next_object → w.src.class_of o ≡ w0.src.class_of o
  pub same_kinds : (q : Position) → KeepsKind (w0.src.held q) (w.src.held q)
  pub same_values : (q : Position) → IsLasting U K w0 q → IsHeld w0 q → w.src.held q ≡ w0.src.held q
  pub same_cells :
      (q : Position) → IsMatched U w0 q → IsLasting U K w0 q → IsHeld w0 q → w.net.cell (moved_at U w0.map q) ≡ w0.net.cell (moved_at U w0.map q)
  pub same_elements :
      (q : Position) (k : ℕ) → IsMatched U w0 q → IsLasting U K w0 q → w0.net.cell (moved_at U w0.map q) ≡ net.holds (n.Array k)
      → w.net.arrays k ≡ w0.net.arrays k
  pub same_arrays : (q : Position) (e : Shape) (k : ℕ) → IsMatched U w0 q → Stays U K w0 q e → HasArray U w0 q e k → HasArray U w q e k
  pub same_ranks : (q : Position) (rank : ℕ) → IsMatched U w0 q → HasRank U w0 q rank → HasRank U w q rank
  pub same_loose :
      (k : ℕ) → k < w0.net.next_array → IsLoose U w0 k → (K.takes k → ⊥) → (w.net.arrays k ≡ w0.net.arrays k) × IsLoose U w k
  pub same_alone : (q : Position) → IsMade (mark w0.src) q.root → (IsMatched U w0 q → ⊥) → w.src.held q ≡ w0.src.held q
  pub same_unmapped : (p : Position) → IsMade (net_mark w0.net) p.root → IsUnmapped U w0 p → w.net.cell p ≡ w0.net.cell p
