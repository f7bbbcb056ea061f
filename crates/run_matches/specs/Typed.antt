-- Well-typed stores: each position and each cell holds a value of the type that was declared for it.
use Rattle.std.specs.Prelude.{◌≡◌, ◌⊎◌, ℕ, suc, ◌<◌, true, nat_lt, ℤ, pos, List, [], ◌∷◌, length, All, Option, Some, None}
use Rattle.vb_tree.specs.BoundTree.{Ty, boolean, byte, integer, long, currency, str, fixed, class, object, variant, nothing, unknown}
use Rattle.vb_tree.specs.declared.value.Value6.{Value6}
use Rattle.vb_tree.specs.declared.value.Value6.TheVariants as v
use Rattle.vb6_meaning.specs.declared.number.NumberKind.TheVariants as kinds
use Rattle.vb6_meaning.specs.Kinds.{fits}
use Rattle.net_meaning.specs.declared.value.ValueN.{ValueN}
use Rattle.net_meaning.specs.declared.value.ValueN.TheVariants as n
use Rattle.net_tree.specs.Types.{TypeName}
use Rattle.run_base.specs.Outcomes.{Outcome, gives, raises, spent, outside}
use Rattle.run_base.specs.Positions.{Root, Position, whole, inner}
use Rattle.vb6_run.specs.Shapes.{Shape, simple, group, array, Shapes, no_shapes, next_shape, is_same_shape, variable_shape}
use Rattle.vb6_run.specs.Store.{Memory, Held, blank, single, table, parts}
use Rattle.vb6_run.specs.Values.{Dimension, Value, scalar, fields, elements, Values, no_values, next_value, count_values, size, is_within_limits}
use Rattle.net_run.specs.Shapes as shape
use Rattle.net_run.specs.Store as net
use Rattle.net_run.specs.Values as net_value
use Rattle.run_matches.specs.Upgrades.{Upgrade}
use Rattle.run_matches.specs.Maps.{Map, Mark, World, IsMade, IsMatched, moved_at, root_variable}
use Rattle.run_matches.specs.Likeness.{SameShape}

-- ---- the source

-- an object was made, of the class of its type if that is one
abbrev pub IsObjectOf : Memory → Option ℕ → (object : ℕ) → Type 0
IsObjectOf s None o = o < s.next_object
IsObjectOf s (Some c) o = (o < s.next_object) × (s.class_of o ≡ Some c)

-- a scalar of a type: of type Variant Empty, a number, a Boolean or a text; of type Unknown any
abbrev pub IsScalar : Memory → Ty → Value6 → Type 0
IsScalar s boolean (v.Boolean b) = Unit {0}
IsScalar s byte (v.Byte m) = fits kinds.Byte (pos m) ≡ true
IsScalar s integer (v.Int z) = fits kinds.Integer z ≡ true
IsScalar s long (v.Long z) = fits kinds.Long z ≡ true
IsScalar s currency (v.Cur z) = fits kinds.Currency z ≡ true
IsScalar s str (v.Str units) = Unit {0}
IsScalar s (fixed n) (v.Str units) = length units ≡ n
IsScalar s (class c) v.Nothing = Unit {0}
IsScalar s (class c) (v.Object o) = IsObjectOf s (Some c) o
IsScalar s object v.Nothing = Unit {0}
IsScalar s object (v.Object o) = IsObjectOf s None o
IsScalar s variant v.Empty = Unit {0}
IsScalar s variant (v.Boolean b) = Unit {0}
IsScalar s variant (v.Byte m) = fits kinds.Byte (pos m) ≡ true
IsScalar s variant (v.Int z) = fits kinds.Integer z ≡ true
IsScalar s variant (v.Long z) = fits kinds.Long z ≡ true
IsScalar s variant (v.Cur z) = fits kinds.Currency z ≡ true
IsScalar s variant (v.Str units) = Unit {0}
IsScalar s nothing v.Nothing = Unit {0}
IsScalar s unknown x = Unit {0}
IsScalar s ty x = ⊥

-- an array that isn't allocated has no elements; another has from 1 to 2,147,483,647 in all
pub data IsSized : List Dimension → Values → Type 0 where
  no_elements : IsSized [] no_values
  sized : (d : Dimension) (dims : List Dimension) (xs : Values) → nat_lt 0 (size (d ∷ dims)) ≡ true → is_within_limits (d ∷ dims) ≡ true
      → count_values xs ≡ size (d ∷ dims) → IsSized (d ∷ dims) xs

mutual
  pub data IsOf (s : Memory) : Shape → Value → Type 0 where
    of_scalar : (ty : Ty) (x : Value6) → IsScalar s ty x → IsOf s (simple ty) (scalar ty x)
    of_fields : (t : ℕ) (fs : Shapes) (xs : Values) → AreOf s fs xs → IsOf s (group t fs) (fields t xs)
    of_elements :
        (e f : Shape) (bounds : List (ℤ × ℤ)) (dims : List Dimension) (xs : Values) → is_same_shape e f ≡ true → IsSized dims xs → EachOf s e xs
        → IsOf s (array e bounds) (elements f dims xs)

  pub data AreOf (s : Memory) : Shapes → Values → Type 0 where
    none_of : AreOf s no_shapes no_values
    next_of : (d : Shape) (rest : Shapes) (x : Value) (xs : Values) → IsOf s d x → AreOf s rest xs → AreOf s (next_shape d rest) (next_value x xs)

  pub data EachOf (s : Memory) : (element : Shape) → Values → Type 0 where
    none_each : (e : Shape) → EachOf s e no_values
    next_each : (e : Shape) (x : Value) (xs : Values) → IsOf s e x → EachOf s e xs → EachOf s e (next_value x xs)

-- what a position holds is of a scalar type or an array of elements; the fields of a user type stand at inner positions
pub data IsHeld (s : Memory) : Shape → Held → Type 0 where
  held_single : (ty : Ty) (x : Value6) → IsScalar s ty x → IsHeld s (simple ty) (single ty x)
  held_table :
      (e f : Shape) (bounds : List (ℤ × ℤ)) (dims : List Dimension) (xs : Values) → is_same_shape e f ≡ true → IsSized dims xs → EachOf s e xs
      → IsHeld s (array e bounds) (table f dims xs)
  held_parts : (t : ℕ) (fs : Shapes) → IsHeld s (group t fs) parts

abbrev mutual
  pub AllHeld : Memory → Shape → Position → Type 0
  AllHeld s (group t fs) q = IsHeld s (group t fs) (s.held q) × FieldsHeld s fs q 0
  AllHeld s d q = IsHeld s d (s.held q)

  pub FieldsHeld : Memory → Shapes → Position → (field : ℕ) → Type 0
  FieldsHeld s no_shapes q k = Unit {0}
  FieldsHeld s (next_shape d rest) q k = AllHeld s d (inner q k) × FieldsHeld s rest q (suc k)

-- Each variable that was made at a mark and is known by its declaration holds a value of its type; a variable of a class stands in its
-- objects alone, and a Static that wasn't made yet holds nothing.
pub record SourceTyped (U : Upgrade) (m : Map) (base : Mark) (s : Memory) : Type 0 where
  pub held :
      (r : Root) (x : ℕ) → IsMade base r → root_variable m r ≡ Some x
      → (s.held (whole r) ≡ blank) ⊎ AllHeld s (variable_shape U.program.declarations x) (whole r)

-- ---- the target

abbrev pub IsNetObject : Option ℕ → net.Memory → net_value.Value → Type 0
IsNetObject of t (net_value.single n.Nothing) = Unit {0}
IsNetObject None t (net_value.single (n.Object o)) = o < t.next_object
IsNetObject (Some home) t (net_value.single (n.Object o)) = (o < t.next_object) × (t.class_of o ≡ Some home)
IsNetObject of t y = ⊥

-- an Object holds any value but an array, and of objects those that were made
abbrev pub IsNetScalar : net.Memory → net_value.Value → Type 0
IsNetScalar t (net_value.single (n.Object o)) = o < t.next_object
IsNetScalar t y = Unit {0}

-- an array of a rank has as many elements as its extents say, each of the shape of its elements
pub record IsNetArray (t : net.Memory) (element : shape.Shape) (rank k : ℕ) : Type 0 where
  pub known : k < t.next_array
  pub is_element : shape.is_same_shape element (t.arrays k).element ≡ true
  pub ranked : length (t.arrays k).counts ≡ rank
  pub counted : length (t.arrays k).elements ≡ net.product (t.arrays k).counts
  pub typed : All (λ y. shape.is_of element y ≡ true) (t.arrays k).elements

pub data IsCell (t : net.Memory) : shape.Shape → net.Cell → Type 0 where
  cell_scalar : (word : TypeName) (y : ValueN) → shape.is_of_word word y ≡ true → IsNetScalar t (net_value.single y)
      → IsCell t (shape.scalar word) (net.holds y)
  cell_class : (home : ℕ) (y : ValueN) → IsNetObject (Some home) t (net_value.single y) → IsCell t (shape.class home) (net.holds y)
  cell_array : (d : shape.Shape) (rank k : ℕ) → IsNetArray t d rank k → IsCell t (shape.array d rank) (net.holds (n.Array k))
  cell_structure : (home member : ℕ) (fs : shape.Fields) → IsCell t (shape.structured home member fs) net.structure

abbrev mutual
  pub AllCells : net.Memory → shape.Shape → Position → Type 0
  AllCells t (shape.structured home member fs) p = IsCell t (shape.structured home member fs) (t.cell p) × FieldCells t fs p 0
  AllCells t d p = IsCell t d (t.cell p)

  pub FieldCells : net.Memory → shape.Fields → Position → (field : ℕ) → Type 0
  FieldCells t shape.no_fields p k = Unit {0}
  FieldCells t (shape.next_field name d rest) p k = AllCells t d (inner p k) × FieldCells t rest p (suc k)

-- The counterpart of each variable that is compared holds a value of its written type.
pub record NetTyped (U : Upgrade) (w : World) : Type 0 where
  pub cells :
      (r : Root) (x : ℕ) (d : shape.Shape) → IsMatched U w (whole r) → root_variable w.map r ≡ Some x
      → SameShape U (variable_shape U.program.declarations x) d
      → (w.net.cell (moved_at U w.map (whole r)) ≡ net.blank) ⊎ AllCells w.net d (moved_at U w.map (whole r))

-- ---- where runs end

-- where a computation ends with a memory, that has a property
abbrev pub EndsIn : {M A : Type 0} → (M → Type 0) → Outcome M A → Type 0
EndsIn Q (gives o a s) = Q s
EndsIn Q (raises o e s) = Q s
EndsIn Q (spent o s) = Q s
EndsIn Q (outside o) = Unit {0}
