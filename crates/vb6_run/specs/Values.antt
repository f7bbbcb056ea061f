-- Values with their types: scalars, user types and arrays.
use Rattle.std.specs.Prelude.{ℕ, ℤ, Bool, List, Option, Some, None, true, false, zero, suc, pos, negsuc, map, replicate, nat_eq, nat_lt, option_and_then, [], ◌∷◌, ◌*◌, ◌^◌, ◌&&◌, ◌-ℤ◌}
use Rattle.vb_tree.specs.BoundTree.{Ty, boolean, byte, integer, long, currency, str, fixed, user, class, object, variant, nothing, unknown}
use Rattle.vb_tree.specs.BoundTree as types
use Rattle.vb_tree.specs.declared.value.Value6.{Value6}
use Rattle.vb_tree.specs.declared.value.Value6.TheVariants as v
use Rattle.vb6_meaning.specs.Values.{fixed_text}
use Rattle.bound_facts.specs.Locks.{is_same_type}
use Rattle.vb6_run.specs.Shapes.{Shape, simple, group, array, endless, Shapes, no_shapes, next_shape, is_same_shape}

-- one dimension of an array: its lower bound and how many indexes it has
pub record Dimension : Type 0 where
  pub low : ℤ
  pub count : ℕ

-- A scalar of a type; a user type with the values of its fields; or an array with its dimensions, none where it isn't allocated. The
-- elements stand in the order of their indexes, of which the last runs through its dimension first.
mutual
  pub data Value : Type 0 where
    scalar : Ty → Value6 → Value
    fields : (user_type : ℕ) → Values → Value
    elements : (element : Shape) → List Dimension → Values → Value

  pub data Values : Type 0 where
    no_values : Values
    next_value : Value → Values → Values

-- ---- lists of values

abbrev pub count_values : Values → ℕ
count_values no_values = 0
count_values (next_value x xs) = suc (count_values xs)

abbrev pub value_at : Values → ℕ → Option Value
value_at no_values i = None
value_at (next_value x xs) zero = Some x
value_at (next_value x xs) (suc i) = value_at xs i

abbrev pub with_value_at : Values → ℕ → Value → Values
with_value_at no_values i y = no_values
with_value_at (next_value x xs) zero y = next_value y xs
with_value_at (next_value x xs) (suc i) y = next_value x (with_value_at xs i y)

abbrev pub repeated : ℕ → Value → Values
repeated zero x = no_values
repeated (suc n) x = next_value x (repeated n x)

-- n values, of which the first are the old ones
abbrev pub preserved : ℕ → Values → Value → Values
preserved zero xs x = no_values
preserved (suc n) no_values x = next_value x (preserved n no_values x)
preserved (suc n) (next_value y ys) x = next_value y (preserved n ys x)

-- ---- fields of a value

abbrev pub field_in : ℕ → Value → Option Value
field_in k (scalar ty x) = None
field_in k (fields t xs) = value_at xs k
field_in k (elements e dims xs) = None

abbrev pub with_field : ℕ → Value → Value → Value
with_field k (scalar ty x) y = scalar ty x
with_field k (fields t xs) y = fields t (with_value_at xs k y)
with_field k (elements e dims xs) y = elements e dims xs

-- the part at a path of fields, the innermost first, and the value with that part changed
abbrev pub part_in : List ℕ → Value → Option Value
part_in [] x = Some x
part_in (k ∷ path) x = option_and_then (field_in k) (part_in path x)

abbrev pub with_field_of : ℕ → Option Value → Value → Value
with_field_of k None y = y
with_field_of k (Some x) y = with_field k x y

abbrev pub with_part : List ℕ → Value → Value → Value
with_part [] x y = y
with_part (k ∷ path) x y = with_part path x (with_field_of k (part_in path x) y)

abbrev pub if_known : Option Value → Value → Option Value
if_known None x = None
if_known (Some old) x = Some x

-- the same, where there is such a part
abbrev pub with_known_part : List ℕ → Value → Value → Option Value
with_known_part path y x = if_known (part_in path x) (with_part path x y)

-- ---- the dimensions of arrays

-- how many whole numbers there are from one to another
abbrev pub count_from : ℤ → ℕ
count_from (pos n) = suc n
count_from (negsuc n) = 0

abbrev pub dimension_of : ℤ × ℤ → Dimension
dimension_of b = record { low = b.0; count = count_from (b.1 -ℤ b.0) }

abbrev pub product : List Dimension → ℕ
product [] = 1
product (d ∷ dims) = d.count * product dims

-- how many elements an array has; one that isn't allocated has none
abbrev pub size : List Dimension → ℕ
size [] = 0
size (d ∷ dims) = product (d ∷ dims)

-- An array has at most 2,147,483,647 elements in a dimension and in all; a larger one lies outside.
abbrev pub is_small : ℕ → Bool
is_small n = nat_lt n (2 ^ 31)

abbrev pub are_small : List Dimension → Bool
are_small [] = true
are_small (d ∷ dims) = is_small d.count && are_small dims

abbrev pub is_within_limits : List Dimension → Bool
is_within_limits dims = are_small dims && is_small (size dims)

-- ---- what variables begin with

-- a fixed string begins as so many units 0
abbrev pub first_scalar : Ty → Value6
first_scalar boolean = v.Boolean false
first_scalar byte = v.Byte 0
first_scalar integer = v.Int (pos 0)
first_scalar long = v.Long (pos 0)
first_scalar currency = v.Cur (pos 0)
first_scalar str = v.Str []
first_scalar (fixed units) = v.Str (replicate units 0)
first_scalar (user t) = v.Empty
first_scalar (class c) = v.Nothing
first_scalar object = v.Nothing
first_scalar variant = v.Empty
first_scalar (types.array e rank) = v.Empty
first_scalar nothing = v.Nothing
first_scalar unknown = v.Empty

abbrev mutual
  pub first_value : Shape → Value
  first_value (simple ty) = scalar ty (first_scalar ty)
  first_value (group t fs) = fields t (first_values fs)
  first_value (array e bounds) = elements e (map dimension_of bounds) (repeated (size (map dimension_of bounds)) (first_value e))
  first_value endless = scalar unknown v.Empty

  pub first_values : Shapes → Values
  first_values no_shapes = no_values
  first_values (next_shape s rest) = next_value (first_value s) (first_values rest)

-- what is made has an end, and no array in it is larger than the limits
abbrev mutual
  pub is_makeable : Shape → Bool
  is_makeable (simple ty) = true
  is_makeable (group t fs) = are_makeable fs
  is_makeable (array e bounds) = is_makeable e && is_within_limits (map dimension_of bounds)
  is_makeable endless = false

  pub are_makeable : Shapes → Bool
  are_makeable no_shapes = true
  are_makeable (next_shape s rest) = is_makeable s && are_makeable rest

-- ---- values as variables keep them

-- whether a scalar is one of a type; of a type that isn't known it may be any
abbrev pub is_typed : Ty → Value6 → Bool
is_typed boolean (v.Boolean b) = true
is_typed byte (v.Byte n) = true
is_typed integer (v.Int z) = true
is_typed long (v.Long z) = true
is_typed currency (v.Cur z) = true
is_typed str (v.Str s) = true
is_typed (fixed units) (v.Str s) = true
is_typed (class c) (v.Object o) = true
is_typed (class c) v.Nothing = true
is_typed object (v.Object o) = true
is_typed object v.Nothing = true
is_typed variant (v.Object o) = false
is_typed variant v.Nothing = false
is_typed variant x = true
is_typed nothing v.Nothing = true
is_typed unknown x = true
is_typed _ _ = false

abbrev pub is_of_shape : Shape → Value → Bool
is_of_shape (simple s) (scalar t x) = is_same_type s t && is_typed t x
is_of_shape (group s fs) (fields t xs) = nat_eq s t
is_of_shape (array e bounds) (elements f dims xs) = is_same_shape e f
is_of_shape _ _ = false

abbrev pub if_of_shape : Bool → Value → Option Value
if_of_shape true x = Some x
if_of_shape false x = None

-- a text in a fixed string is cut or padded with blanks
abbrev pub padded : ℕ → Value → Value
padded n (scalar str (v.Str units)) = scalar (fixed n) (v.Str (fixed_text n units))
padded n x = x

abbrev pub fitted : Shape → Value → Value
fitted (simple (fixed n)) x = padded n x
fitted s x = x

-- a value as a variable of a shape keeps it: of its own type, or a text in a fixed string
abbrev pub kept_as : Shape → Value → Option Value
kept_as s x = if_of_shape (is_of_shape s (fitted s x)) (fitted s x)
