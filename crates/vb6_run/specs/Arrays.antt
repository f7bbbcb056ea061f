-- Arrays: their elements and bounds, and how they are made anew and erased.
use Rattle.std.specs.Prelude.{ℕ, ℤ, Bool, List, Option, Some, None, true, false, suc, pos, negsuc, length, nat_eq, nat_lt, slice_get, int_le, int_lt, unsigned_abs, [], ◌∷◌, ◌+◌, ◌*◌, ◌&&◌, ◌+ℤ◌, ◌-ℤ◌}
use Rattle.vb_tree.specs.BoundTree.{long}
use Rattle.vb_tree.specs.declared.value.Value6.TheVariants as v
use Rattle.vb6_meaning.specs.Kinds.{fits}
use Rattle.vb6_meaning.specs.declared.number.NumberKind.TheVariants as kinds
use Rattle.std.specs.Ordering.{int_eq}
use Rattle.run_base.specs.Outcomes.{gives, raises, outside, some_of}
use Rattle.run_base.specs.Positions.{Position}
use Rattle.vb6_run.specs.Shapes.{Shape, simple, group, array, endless}
use Rattle.vb6_run.specs.Values.{Dimension, Value, scalar, fields, elements, Values, no_values, value_at, repeated, preserved, product, size, is_small, is_within_limits, first_value, is_makeable}
use Rattle.vb6_run.specs.Store.{Held, blank, single, table, parts, Address, root, item, constant, Locked, Does, with_held, provided, contains, unless_locked}

-- ---- the array at an address

abbrev pub with_held_array : {A : Type 0} → Held → (Shape → List Dimension → Values → Does A) → Does A
with_held_array blank go w = outside []
with_held_array (single t x) go w = outside []
with_held_array (table e dims xs) go w = go e dims xs w
with_held_array parts go w = outside []

abbrev pub with_array_value : {A : Type 0} → Value → (Shape → List Dimension → Values → Does A) → Does A
with_array_value (scalar ty x) go w = outside []
with_array_value (fields t xs) go w = outside []
with_array_value (elements e dims xs) go w = go e dims xs w

-- What lies outside: an array inside an element of an array, whose declaration breaks a rule; and what is no array.
abbrev pub with_array : {A : Type 0} → Address → (Shape → List Dimension → Values → Does A) → Does A
with_array (root s q) go w = with_held_array (w.held q) go w
with_array (item e q j path) go w = outside []
with_array (constant x) go w = with_array_value x go w

-- ---- lower bounds

-- the lower bounds that ties give, by dimensions; none where no declaration stands for the array
abbrev pub Lows : Type 0
Lows = Option (ℕ → ℤ)

abbrev pub are_lows : (low : ℕ → ℤ) → (dimension : ℕ) → List Dimension → Bool
are_lows low k [] = true
are_lows low k (d ∷ dims) = int_eq (low k) d.low && are_lows low (suc k) dims

-- What lies outside: an array with other lower bounds than its ties give it. One that isn't allocated has none.
abbrev pub has_lows : Lows → List Dimension → Bool
has_lows None dims = false
has_lows (Some low) dims = are_lows low 0 dims

abbrev pub is_long : ℤ → Bool
is_long z = fits kinds.Long z

-- a lower bound that is no Long lies outside
abbrev pub have_long_lows : List Dimension → Bool
have_long_lows [] = true
have_long_lows (d ∷ dims) = is_long d.low && have_long_lows dims

-- ---- elements

abbrev pub index_if : Bool → ℤ → Option ℕ
index_if true z = Some (unsigned_abs z)
index_if false z = None

-- the place of an index in a dimension, counted from 0
abbrev pub index_in : Dimension → ℤ → Option ℕ
index_in d z = index_if (int_le d.low z && int_lt (z -ℤ d.low) (pos d.count)) (z -ℤ d.low)

abbrev pub joined_index : (inner : ℕ) → Option ℕ → Option ℕ → Option ℕ
joined_index n None j = None
joined_index n (Some i) None = None
joined_index n (Some i) (Some j) = Some (i * n + j)

-- the place of an element by its indexes
abbrev pub element_place : List Dimension → (indexes : List ℤ) → Option ℕ
element_place [] [] = Some 0
element_place [] (z ∷ zs) = None
element_place (d ∷ dims) [] = None
element_place (d ∷ dims) (z ∷ zs) = joined_index (product dims) (index_in d z) (element_place dims zs)

-- an array that isn't allocated takes any number of indexes, and raises at each
abbrev pub takes_indexes : List Dimension → (indexes : List ℤ) → Bool
takes_indexes [] zs = true
takes_indexes (d ∷ dims) zs = nat_eq (length (d ∷ dims)) (length zs)

abbrev pub item_of : Address → (element : Shape) → Values → (place : ℕ) → Does Address
item_of (root s q) e xs j w = gives [] (item e q j []) w
item_of (item f q k path) e xs j w = outside []
item_of (constant x) e xs j w = some_of (value_at xs j) (λ y w. gives [] (constant y) w) w

-- an index out of bounds raises 9
abbrev pub item_if : Address → (element : Shape) → Values → (place : Option ℕ) → Does Address
item_if a e xs None w = raises [] 9 w
item_if a e xs (Some j) w = item_of a e xs j w

-- the address of an element
abbrev pub element_address : Address → (indexes : List ℤ) → Does Address
element_address a zs w = with_array a (λ e dims xs w. item_if a e xs (element_place dims zs) w) w

-- ---- bounds

pub data Side : Type 0 where
  lower : Side
  upper : Side

abbrev pub bound_at : Side → Dimension → ℤ
bound_at lower d = d.low
bound_at upper d = d.low +ℤ (pos d.count -ℤ pos 1)

abbrev pub bound_value : ℤ → Does Value
bound_value z w = provided (is_long z) (λ w. gives [] (scalar long (v.Long z)) w) w

-- The bound of an array in a dimension, counted from 0. What lies outside: a dimension above the rank, and a bound that is no Long.
abbrev pub bound_of : Side → (dimension : ℕ) → List Dimension → Does Value
bound_of side k [] w = raises [] 9 w
bound_of side k (d ∷ dims) w = some_of (slice_get (d ∷ dims) k) (λ d w. bound_value (bound_at side d) w) w

abbrev pub array_bound : Lows → Side → (dimension : ℕ) → Address → Does Value
array_bound lows side k a w = with_array a (λ e dims xs w. provided (has_lows lows dims && have_long_lows dims) (bound_of side k dims) w) w

-- ---- ReDim and Erase

abbrev pub dimension_to : (low : ℤ) → (difference : ℤ) → Does Dimension
dimension_to low (pos n) w = provided (is_small (suc n)) (λ w. gives [] (record { low = low; count = suc n }) w) w
dimension_to low (negsuc n) w = raises [] 9 w

-- One dimension of a ReDim, which is checked by itself: an upper bound below the lower one raises 9. What lies outside: a lower bound that is
-- no Long.
abbrev pub new_dimension : (low high : ℤ) → Does Dimension
new_dimension low high w = provided (is_long low) (dimension_to low (high -ℤ low)) w

-- Preserve keeps the first elements at rank 1. What lies outside: Preserve at another rank.
abbrev pub resized : (preserve : Bool) → (old new : List Dimension) → (element : Shape) → Values → Option Values
resized false old new e xs = Some (repeated (size new) (first_value e))
resized true [] new e xs = Some (repeated (size new) (first_value e))
resized true (d ∷ []) (n ∷ []) e xs = Some (preserved n.count xs (first_value e))
resized true (d ∷ []) [] e xs = None
resized true (d ∷ []) (n ∷ m ∷ new) e xs = None
resized true (d ∷ c ∷ old) new e xs = None

abbrev pub put_resized : Locked → (preserve : Bool) → List Dimension → Held → Position → Does Unit
put_resized locked preserve new h q w = with_held_array h (λ e dims xs w.
    provided (is_makeable e && (is_within_limits new && nat_lt 0 (size new)))
    (some_of (resized preserve dims new e xs)
    (λ ys w. unless_locked (contains locked q) (λ w. gives [] tt (with_held q (table e new ys) w)) w)) w) w

-- the position of a dynamic array
abbrev pub dynamic_array : Address → Option Position
dynamic_array (root (simple ty) q) = None
dynamic_array (root (group t fs) q) = None
dynamic_array (root (array e []) q) = Some q
dynamic_array (root (array e (b ∷ bounds)) q) = None
dynamic_array (root endless q) = None
dynamic_array (item e q j path) = None
dynamic_array (constant x) = None

-- What lies outside: a fixed array, or one that isn't at a position, is made anew or erased.
abbrev pub resize : Locked → Lows → (preserve : Bool) → List Dimension → Address → Does Unit
resize locked lows preserve new a w =
    some_of (dynamic_array a) (λ q w. provided (has_lows lows new) (put_resized locked preserve new (w.held q) q) w) w

abbrev pub erase_at : Locked → Position → Does Unit
erase_at locked q w = with_held_array (w.held q) (λ e dims xs w.
    unless_locked (contains locked q) (λ w. gives [] tt (with_held q (table e [] no_values) w)) w) w

abbrev pub erase : Locked → Address → Does Unit
erase locked a w = some_of (dynamic_array a) (λ q w. erase_at locked q w) w
