-- When types and values of both languages match: scalars, user types field by field, and arrays against arrays by number.
use Rattle.std.specs.Prelude.{◌≡◌, ℕ, ℤ, suc, nat_eq, nat_lt, ◌&&◌, Bool, true, false, Option, Some, None, List, [], ◌∷◌, map, length}
use Rattle.std.specs.List.{list_all}
use Rattle.vb_tree.specs.BoundTree.{Ty, boolean, byte, integer, long, currency, str, fixed, user, class, object, variant, nothing, unknown}
use Rattle.vb_tree.specs.BoundTree as types
use Rattle.vb_tree.specs.declared.value.Value6.{Value6}
use Rattle.net_tree.specs.Types.{TypeName}
use Rattle.net_tree.specs.Types as word
use Rattle.net_meaning.specs.declared.value.ValueN.{ValueN}
use Rattle.net_meaning.specs.declared.value.ValueN.TheVariants as n
use Rattle.net_meaning.specs.ValueMatch.{Matches}
use Rattle.vb6_run.specs.Shapes.{Shape, simple, group, array, Shapes, no_shapes, next_shape}
use Rattle.vb6_run.specs.Values.{Dimension, Value, scalar, fields, elements, Values, no_values, next_value, size, is_within_limits}
use Rattle.net_run.specs.Shapes as shape
use Rattle.net_run.specs.Store.{Array, product}
use Rattle.net_run.specs.Values as net
use Rattle.run_matches.specs.Upgrades.{Upgrade, class_home, structure_place, is_flagged_field, field_name, field_rank}
use Rattle.run_matches.specs.Maps.{World}

-- ---- types

-- the written type of a scalar that is of no class
abbrev pub scalar_word : Ty → Option TypeName
scalar_word boolean = Some word.boolean
scalar_word byte = Some word.byte
scalar_word integer = Some word.short
scalar_word long = Some word.integer
scalar_word currency = Some word.decimal
scalar_word str = Some word.str
scalar_word (fixed units) = Some word.str
scalar_word (user t) = None
scalar_word (class c) = None
scalar_word object = Some word.object
scalar_word variant = Some word.object
scalar_word (types.array e rank) = None
scalar_word nothing = Some word.object
scalar_word unknown = Some word.object

-- a field that is an array has the rank of its declaration
abbrev pub HasFieldRank : Upgrade → (user_type field : ℕ) → shape.Shape → Type 0
HasFieldRank U t k (shape.array d rank) = rank ≡ field_rank U t k
HasFieldRank U t k d = Unit {0}

-- The written shape of a shape. A field whose declaration carries an issue has any, under its own name. An array's rank is that of its
-- declaration, of which the source's shape tells nothing.
mutual
  pub data SameShape (U : Upgrade) : Shape → shape.Shape → Type 0 where
    same_scalar : (ty : Ty) (t : TypeName) → scalar_word ty ≡ Some t → SameShape U (simple ty) (shape.scalar t)
    same_class : (c home : ℕ) → class_home U c ≡ Some home → SameShape U (simple (class c)) (shape.class home)
    same_group : (t home member : ℕ) (fs : Shapes) (gs : shape.Fields) → structure_place U t ≡ Some (home, member) → SameFields U t 0 fs gs
        → SameShape U (group t fs) (shape.structured home member gs)
    same_array : (e : Shape) (bounds : List (ℤ × ℤ)) (d : shape.Shape) (rank : ℕ) → SameShape U e d → SameShape U (array e bounds) (shape.array d rank)

  -- the fields of a user type from one on
  pub data SameFields (U : Upgrade) : (user_type field : ℕ) → Shapes → shape.Fields → Type 0 where
    no_fields : (t k : ℕ) → SameFields U t k no_shapes shape.no_fields
    same_field : (t k : ℕ) (s : Shape) (d : shape.Shape) (rest : Shapes) (others : shape.Fields) → SameShape U s d → HasFieldRank U t k d
        → SameFields U t (suc k) rest others
        → SameFields U t k (next_shape s rest) (shape.next_field (field_name U t k) d others)
    flagged_field : (t k : ℕ) (s : Shape) (d : shape.Shape) (rest : Shapes) (others : shape.Fields) → is_flagged_field U t k ≡ true
        → SameFields U t (suc k) rest others → SameFields U t k (next_shape s rest) (shape.next_field (field_name U t k) d others)

-- ---- what numbers in values stand for

-- an object that was made, and the one that stands for it
abbrev pub are_same : World → ℕ → ℕ → Bool
are_same w i j = nat_lt i w.src.next_object && nat_eq (w.map.objects i) j

-- which objects are the same, and the arrays of the target by their numbers: all that values need of two memories
pub record Numbers : Type 0 where
  pub same : ℕ → ℕ → Bool
  pub arrays : ℕ → Array

abbrev pub numbers_of : World → Numbers
numbers_of w = record { same = are_same w; arrays = w.net.arrays }

-- The scalars that match at a type: one pair of kinds for each type, with "" and Nothing besides where the type is String, and Empty and
-- Nothing where it is Variant.
abbrev pub Like : World → Ty → Value6 → ValueN → Type 0
Like w ty x y = Matches (are_same w) ty x y

-- ---- arrays

abbrev pub counts_of : List Dimension → List ℕ
counts_of dims = map (λ (d : Dimension). d.count) dims

-- An array that isn't allocated has one without elements. Another has at least one element, is within the limits, and has as many indexes
-- in each dimension.
pub data SameCounts : List Dimension → List ℕ → Type 0 where
  no_counts : (counts : List ℕ) → product counts ≡ 0 → SameCounts [] counts
  same_counts : (d : Dimension) (dims : List Dimension) → nat_lt 0 (size (d ∷ dims)) ≡ true → is_within_limits (d ∷ dims) ≡ true
      → SameCounts (d ∷ dims) (counts_of (d ∷ dims))

-- ---- values

abbrev mutual
  -- a value without an array in it
  pub is_flat : net.Value → Bool
  is_flat net.unknown = true
  is_flat (net.single (n.Array k)) = false
  is_flat (net.single y) = true
  is_flat (net.fields ys) = are_flat ys

  pub are_flat : net.Values → Bool
  are_flat net.no_values = true
  are_flat (net.next_value y ys) = is_flat y && are_flat ys

-- an array in a field of a user type has the rank of the field
abbrev pub IsFieldRanked : Upgrade → Numbers → (user_type field : ℕ) → net.Value → Type 0
IsFieldRanked U N t k (net.single (n.Array j)) = length (N.arrays j).counts ≡ field_rank U t k
IsFieldRanked U N t k y = Unit {0}

mutual
  pub data ValueLike (U : Upgrade) (N : Numbers) : Value → net.Value → Type 0 where
    like_scalar : (ty : Ty) (x : Value6) (y : ValueN) → Matches N.same ty x y → ValueLike U N (scalar ty x) (net.single y)
    like_fields : (t : ℕ) (xs : Values) (ys : net.Values) → FieldsLike U N t 0 xs ys → ValueLike U N (fields t xs) (net.fields ys)
    like_elements : (e : Shape) (dims : List Dimension) (xs : Values) (k : ℕ) → ArrayLike U N e dims xs (N.arrays k)
        → ValueLike U N (elements e dims xs) (net.single (n.Array k))

  -- the fields of a user type from one on, but for those whose declaration carries an issue
  pub data FieldsLike (U : Upgrade) (N : Numbers) : (user_type field : ℕ) → Values → net.Values → Type 0 where
    like_none : (t k : ℕ) → FieldsLike U N t k no_values net.no_values
    like_field : (t k : ℕ) (x : Value) (y : net.Value) (xs : Values) (ys : net.Values) → ValueLike U N x y → IsFieldRanked U N t k y
        → FieldsLike U N t (suc k) xs ys → FieldsLike U N t k (next_value x xs) (net.next_value y ys)
    like_flagged : (t k : ℕ) (x : Value) (y : net.Value) (xs : Values) (ys : net.Values) → is_flagged_field U t k ≡ true
        → FieldsLike U N t (suc k) xs ys → FieldsLike U N t k (next_value x xs) (net.next_value y ys)

  -- both keep the elements with neighbouring last indexes side by side
  pub data ItemsLike (U : Upgrade) (N : Numbers) : Values → List net.Value → Type 0 where
    no_items : ItemsLike U N no_values []
    next_item : (x : Value) (y : net.Value) (xs : Values) (ys : List net.Value) → ValueLike U N x y → ItemsLike U N xs ys
        → ItemsLike U N (next_value x xs) (y ∷ ys)

  -- It has as many elements as its counts say. None has an array in it, since the declaration would carry an issue.
  pub data ArrayLike (U : Upgrade) (N : Numbers) : (element : Shape) → List Dimension → Values → Array → Type 0 where
    same_elements : (e : Shape) (dims : List Dimension) (xs : Values) (a : Array) → SameShape U e a.element → SameCounts dims a.counts
        → ItemsLike U N xs a.elements → length a.elements ≡ product a.counts → list_all is_flat a.elements ≡ true → ArrayLike U N e dims xs a

-- a value of the target stands for one of the source
abbrev pub LikeV : Upgrade → World → Value → net.Value → Type 0
LikeV U w x y = ValueLike U (numbers_of w) x y

-- ---- the shape that an address of a value has

-- A scalar's tells nothing more. A user type has that of its structure, so that its fields are found; an array that of its elements.
pub data ShapedAs (U : Upgrade) : Value → shape.Shape → Type 0 where
  scalar_shaped : (ty : Ty) (x : Value6) (s : shape.Shape) → ShapedAs U (scalar ty x) s
  fields_shaped : (t : ℕ) (xs : Values) (fs : Shapes) (s : shape.Shape) → SameShape U (group t fs) s → ShapedAs U (fields t xs) s
  elements_shaped : (e : Shape) (dims : List Dimension) (xs : Values) (bounds : List (ℤ × ℤ)) (s : shape.Shape) → SameShape U (array e bounds) s
      → ShapedAs U (elements e dims xs) s
