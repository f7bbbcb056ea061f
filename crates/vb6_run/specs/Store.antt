-- What a run of Visual Basic 6 keeps, and how variables are made, read and written.
use Rattle.std.specs.Prelude.{ℕ, Bool, List, Option, Some, None, true, false, not, suc, map, option_map, option_and_then, [], ◌∷◌, ◌||◌}
use Rattle.vb_tree.specs.BoundTree.{Ty}
use Rattle.vb_tree.specs.declared.value.Value6.{Value6}
use Rattle.run_base.specs.Outcomes.{Outcome, gives, raises, outside, then, some_of, found}
use Rattle.run_base.specs.Positions.{made, Position, whole, inner, is_same_position, updated}
use Rattle.run_base.specs.Frames.{Given, by_value, by_address, Frame}
use Rattle.run_base.specs.Machines.{Calls}
use Rattle.bound_facts.specs.Locks.{is_same_type}
use Rattle.vb6_run.specs.Shapes.{Shape, simple, group, array, endless, Shapes, no_shapes, next_shape, is_same_shape, field_shape, part_shape}
use Rattle.vb6_run.specs.Values.{Dimension, Value, scalar, fields, elements, Values, no_values, next_value, value_at, with_value_at, repeated, field_in, part_in, with_known_part, dimension_of, size, first_scalar, first_value, is_makeable, is_of_shape, kept_as}

-- What a position holds: nothing where none was made; a scalar of the type of its variable; an array; or a user type, whose fields stand
-- at the positions inside. A Static isn't made where its root is blank.
pub data Held : Type 0 where
  blank : Held
  single : Ty → Value6 → Held
  table : (element : Shape) → List Dimension → Values → Held
  parts : Held

-- An address with its shape: a position; an element of the array at a position, by its place among the elements, or a field of a user
-- type in it; or a value, which is never written.
pub data Address : Type 0 where
  root : Shape → Position → Address
  item : (element : Shape) → (array : Position) → (index : ℕ) → (path : List ℕ) → Address
  constant : Value → Address

-- What a run keeps: what each position holds, the number of the next place, the class of each object and the number of the next one, the
-- Err number, the inputs that are still to come, and the steps that are left.
pub record Memory : Type 0 where
  pub held : Position → Held
  pub next : ℕ
  pub class_of : ℕ → Option ℕ
  pub next_object : ℕ
  pub err : ℕ
  pub inputs : List (List ℕ)
  pub left : ℕ

-- the arrays of which an element is bound to a parameter, here or in a caller
abbrev pub Locked : Type 0
Locked = List Position

abbrev pub Does : Type 0 → Type 0
Does A = Memory → Outcome Memory A

abbrev pub SourceGiven : Type 0
SourceGiven = Given Value Address

abbrev pub SourceFrame : Type 0
SourceFrame = Frame ℕ Value Address Locked

abbrev pub SourceCalls : Type 0
SourceCalls = Calls Memory ℕ Value Address Locked

abbrev pub set_err : ℕ → Memory → Memory
set_err e w = record w { err = e }

abbrev pub with_held : Position → Held → Memory → Memory
with_held q h w = record w { held = updated w.held q h }

-- goes on where a condition holds
abbrev pub provided : {A : Type 0} → Bool → Does A → Does A
provided true go w = go w
provided false go w = outside []

-- ---- making

abbrev mutual
  -- the variables of a shape at a position, with their first values
  pub laid : Shape → Position → Memory → Memory
  laid (simple ty) q w = with_held q (single ty (first_scalar ty)) w
  laid (group t fs) q w = all_laid fs q 0 (with_held q parts w)
  laid (array e bounds) q w = with_held q (table e (map dimension_of bounds) (repeated (size (map dimension_of bounds)) (first_value e))) w
  laid endless q w = w

  pub all_laid : Shapes → Position → (field : ℕ) → Memory → Memory
  all_laid no_shapes q k w = w
  all_laid (next_shape s rest) q k w = all_laid rest q (suc k) (laid s (inner q k) w)

-- What lies outside: a type that holds itself, and an array past the limits.
abbrev pub lay : Shape → Position → Does Unit
lay s q w = provided (is_makeable s) (λ w. gives [] tt (laid s q w)) w

-- a place of its own
abbrev pub make : Shape → Does Address
make s w = then (lay s (whole (made w.next)) (record w { next = suc w.next })) (λ u v. gives [] (root s (whole (made w.next))) v)

-- ---- reading

abbrev pub value_if : Bool → Value → Option Value
value_if true x = Some x
value_if false x = None

abbrev pub single_in : Ty → Held → Option Value
single_in ty blank = None
single_in ty (single t x) = value_if (is_same_type ty t) (scalar t x)
single_in ty (table e dims xs) = None
single_in ty parts = None

abbrev pub array_in : (element : Shape) → Held → Option Value
array_in e blank = None
array_in e (single t x) = None
array_in e (table f dims xs) = value_if (is_same_shape e f) (elements f dims xs)
array_in e parts = None

abbrev pub fields_from : (user_type : ℕ) → Option Values → Option Value
fields_from t None = None
fields_from t (Some xs) = Some (fields t xs)

abbrev pub both_from : Option Value → Option Values → Option Values
both_from None rest = None
both_from (Some x) None = None
both_from (Some x) (Some xs) = Some (next_value x xs)

abbrev mutual
  pub gathered : Shape → Position → (Position → Held) → Option Value
  gathered (simple ty) q h = single_in ty (h q)
  gathered (group t fs) q h = fields_from t (all_gathered fs q 0 h)
  gathered (array e bounds) q h = array_in e (h q)
  gathered endless q h = None

  pub all_gathered : Shapes → Position → (field : ℕ) → (Position → Held) → Option Values
  all_gathered no_shapes q k h = Some no_values
  all_gathered (next_shape s rest) q k h = both_from (gathered s (inner q k) h) (all_gathered rest q (suc k) h)

abbrev pub item_in : Held → (index : ℕ) → (path : List ℕ) → Option Value
item_in blank j path = None
item_in (single t x) j path = None
item_in (table e dims xs) j path = option_and_then (part_in path) (value_at xs j)
item_in parts j path = None

abbrev pub held_at : Address → (Position → Held) → Option Value
held_at (root s q) h = gathered s q h
held_at (item e q j path) h = item_in (h q) j path
held_at (constant x) h = Some x

-- What lies outside: an address where no value of its type is held.
abbrev pub read : Address → Does Value
read a w = found (held_at a w.held) w

-- ---- writing

abbrev pub contains : Locked → Position → Bool
contains [] q = false
contains (p ∷ rest) q = is_same_position p q || contains rest q

-- a locked array is neither made anew nor erased nor assigned
abbrev pub unless_locked : Bool → Does Unit → Does Unit
unless_locked true go w = raises [] 10 w
unless_locked false go w = go w

-- What lies outside: a position that wasn't made, or that holds another type.
abbrev pub put_single : Held → Position → Ty → Value6 → Does Unit
put_single blank q ty x w = outside []
put_single (single t old) q ty x w = provided (is_same_type t ty) (λ w. gives [] tt (with_held q (single t x) w)) w
put_single (table e dims xs) q ty x w = outside []
put_single parts q ty x w = outside []

abbrev pub put_array : Locked → Held → Position → (element : Shape) → List Dimension → Values → Does Unit
put_array locked blank q e dims xs w = outside []
put_array locked (single t old) q e dims xs w = outside []
put_array locked (table f old_dims old) q e dims xs w =
    provided (is_same_shape f e) (unless_locked (contains locked q) (λ w. gives [] tt (with_held q (table f dims xs) w))) w
put_array locked parts q e dims xs w = outside []

abbrev mutual
  -- a value to a position, a user type field by field
  pub store : Locked → Value → Position → Does Unit
  store locked (scalar ty x) q w = put_single (w.held q) q ty x w
  store locked (fields t xs) q w = store_all locked xs q 0 w
  store locked (elements e dims xs) q w = put_array locked (w.held q) q e dims xs w

  pub store_all : Locked → Values → Position → (field : ℕ) → Does Unit
  store_all locked no_values q k w = gives [] tt w
  store_all locked (next_value x xs) q k w = then (store locked x (inner q k) w) (λ u w. store_all locked xs q (suc k) w)

-- What lies outside: an element that the array has no longer.
abbrev pub put_item : Held → Position → (index : ℕ) → (path : List ℕ) → Value → Does Unit
put_item blank q j path x w = outside []
put_item (single t old) q j path x w = outside []
put_item (table e dims xs) q j path x w =
    some_of (option_and_then (with_known_part path x) (value_at xs j))
    (λ y w. gives [] tt (with_held q (table e dims (with_value_at xs j y)) w)) w
put_item parts q j path x w = outside []

-- a fixed array isn't assigned as a whole
abbrev pub is_fixed_array : Shape → Bool
is_fixed_array (simple ty) = false
is_fixed_array (group t fs) = false
is_fixed_array (array e []) = false
is_fixed_array (array e (b ∷ bounds)) = true
is_fixed_array endless = false

-- What lies outside: a value of another type than its variable's; a fixed array assigned whole; an address that holds no such variable; and
-- a value as a target.
abbrev pub write : Locked → Value → Address → Does Unit
write locked x (root s q) w = provided (not (is_fixed_array s)) (some_of (kept_as s x) (λ x w. store locked x q w)) w
write locked x (item e q j path) w =
    some_of (option_and_then (λ s. kept_as s x) (part_shape path e)) (λ x w. put_item (w.held q) q j path x w) w
write locked x (constant y) w = outside []

-- a place of its own that holds a value
abbrev pub make_with : Shape → Value → Does Address
make_with s x w = then (make s w) (λ a w. then (write [] x a w) (λ u w. gives [] a w))

-- ---- addresses

-- the address of a field of a user type
abbrev pub field_address : ℕ → Address → (Position → Held) → Option Address
field_address k (root s q) h = option_map (λ t. root t (inner q k)) (field_shape k s)
field_address k (item e q j path) h = option_map (λ x. item e q j (k ∷ path)) (item_in (h q) j (k ∷ path))
field_address k (constant x) h = option_map constant (field_in k x)

-- whether an address is of a shape
abbrev pub is_some_shape : Shape → Option Shape → Bool
is_some_shape s None = false
is_some_shape s (Some t) = is_same_shape s t

abbrev pub is_address_of : Shape → Address → Bool
is_address_of s (root t q) = is_same_shape s t
is_address_of s (item e q j path) = is_some_shape s (part_shape path e)
is_address_of s (constant x) = is_of_shape s x

-- the arrays of which an argument is an element or a field of one
abbrev pub locked_by : List SourceGiven → Locked
locked_by [] = []
locked_by (by_value x ∷ rest) = locked_by rest
locked_by (by_address (root s q) ∷ rest) = locked_by rest
locked_by (by_address (item e q j path) ∷ rest) = q ∷ locked_by rest
locked_by (by_address (constant x) ∷ rest) = locked_by rest
