-- What a run keeps: places and their addresses, arrays and objects by number; and how they are made, read and written.
use Rattle.std.specs.Prelude.{ℕ, suc, ◌+◌, ◌*◌, ◌-◌, nat_lt, nat_le, pos, negsuc, cond, List, [], ◌∷◌, ◌++◌, length, take, replicate, Option, Some, None, option_map, slice_get, slice_set}
use Rattle.vb6_meaning.specs.Answers.{Answer, then_answer}
use Rattle.vb6_meaning.specs.Answers as value
use Rattle.net_meaning.specs.declared.value.ValueN.{ValueN}
use Rattle.net_meaning.specs.declared.value.ValueN.TheVariants as n
use Rattle.run_base.specs.Outcomes.{Outcome, gives, raises, outside, then, answered}
use Rattle.run_base.specs.Positions.{Key, made, field, Position, whole, inner, updated, updated_at}
use Rattle.net_run.specs.Values.{Value, unknown, single, fields, Values, no_values, next_value, or_unknown, field_value, part_at, with_part_at}
use Rattle.net_run.specs.Shapes.{Shape, scalar, class, structured, array, shapeless, Fields, no_fields, next_field, field_named, is_of, default_of, word_of}

-- What a place holds: a single value; or a structure stands there, whose fields are at inner positions; or nothing was made there.
pub data Cell : Type 0 where
  blank : Cell
  holds : ValueN → Cell
  structure : Cell

-- An array: the shape of its elements, how many indexes it has in each dimension, and its elements, of which those with neighbouring last
-- indexes are neighbours. What is Nothing is no array, and an array may have no element.
pub record Array : Type 0 where
  pub element : Shape
  pub counts : List ℕ
  pub elements : List Value

-- What a run keeps: what each position holds, and the number of the next place to be made; arrays and the classes of objects by their
-- numbers, with the next of each; the Err number; the inputs that are still to come; and the steps that are left.
pub record Memory : Type 0 where
  pub cell : Position → Cell
  pub next : ℕ
  pub arrays : ℕ → Array
  pub next_array : ℕ
  pub class_of : ℕ → Option ℕ
  pub next_object : ℕ
  pub err : ℕ
  pub inputs : List (List ℕ)
  pub left : ℕ

-- nothing was made in it
abbrev pub no_array : Array
no_array = record { element = shapeless; counts = []; elements = [] }

abbrev pub empty_memory : (inputs : List (List ℕ)) → Memory
empty_memory inputs = record {
  cell = λ q. blank;
  next = 0;
  arrays = λ k. no_array;
  next_array = 0;
  class_of = λ o. None;
  next_object = 0;
  err = 0;
  inputs = inputs;
  left = 0;
}

-- what a computation does from a memory
abbrev pub Does : Type 0 → Type 0
Does A = Memory → Outcome Memory A

-- An address, with the shape of what is there: a position; a field path, the innermost first, in an element of an array; or a value, which is
-- no place. There is none where nothing was found: no use of it has a meaning.
pub data Address : Type 0 where
  root : Shape → Position → Address
  item : Shape → (array index : ℕ) → (path : List ℕ) → Address
  constant : Shape → Value → Address
  nowhere : Address

abbrev pub or_nowhere : Option Address → Address
or_nowhere None = nowhere
or_nowhere (Some a) = a

abbrev pub shape_at : Address → Shape
shape_at (root shape q) = shape
shape_at (item shape k j path) = shape
shape_at (constant shape v) = shape
shape_at nowhere = shapeless

-- a value that nothing declares, as an address
abbrev pub value_shape : Value → Shape
value_shape unknown = shapeless
value_shape (single x) = scalar (word_of x)
value_shape (fields vs) = shapeless

abbrev pub as_constant : Value → Address
as_constant v = constant (value_shape v) v

-- ---- reads, which always end

abbrev pub held : Cell → Value
held blank = unknown
held (holds x) = single x
held structure = unknown

abbrev mutual
  pub gathered : Shape → Position → (Position → Cell) → Value
  gathered (scalar ty) q cell = held (cell q)
  gathered (class c) q cell = held (cell q)
  gathered (structured home m fs) q cell = fields (all_gathered fs q 0 cell)
  gathered (array element rank) q cell = held (cell q)
  gathered shapeless q cell = unknown

  pub all_gathered : Fields → Position → (i : ℕ) → (Position → Cell) → Values
  all_gathered no_fields q i cell = no_values
  all_gathered (next_field name shape fs) q i cell = next_value (gathered shape (inner q i) cell) (all_gathered fs q (suc i) cell)

abbrev pub part_of_some : List ℕ → Option Value → Option Value
part_of_some path None = None
part_of_some path (Some v) = part_at path v

-- the value at an address
abbrev pub looked_up : Address → Memory → Value
looked_up (root shape q) w = gathered shape q w.cell
looked_up (item shape k j path) w = or_unknown (part_of_some path (slice_get (w.arrays k).elements j))
looked_up (constant shape v) w = v
looked_up nowhere w = unknown

-- ---- writes

abbrev pub with_cell : Position → Cell → Memory → Memory
with_cell q c w = record w { cell = updated w.cell q c }

-- a place that was made for a single value takes one; no other does
abbrev pub put : Cell → Position → ValueN → Does Unit
put blank q x w = outside []
put (holds old) q x w = gives [] tt (with_cell q (holds x) w)
put structure q x w = outside []

-- what was never found can't be stored
abbrev mutual
  pub stored : Value → Position → Does Unit
  stored unknown q w = outside []
  stored (single x) q w = put (w.cell q) q x w
  stored (fields vs) q w = all_stored vs q 0 w

  pub all_stored : Values → Position → (i : ℕ) → Does Unit
  all_stored no_values q i w = gives [] tt w
  all_stored (next_value v vs) q i w = then (stored v (inner q i) w) (λ u w. all_stored vs q (suc i) w)

abbrev pub with_elements : (array : ℕ) → List Value → Memory → Memory
with_elements k vs w = record w { arrays = updated_at w.arrays k (record (w.arrays k) { elements = vs }) }

-- an element that isn't there takes no value
abbrev pub put_element : (array index : ℕ) → (path : List ℕ) → Value → Option Value → Does Unit
put_element k j path v None w = outside []
put_element k j path v (Some old) w = gives [] tt (with_elements k (slice_set (w.arrays k).elements j (with_part_at path old v)) w)

-- a value, or an address where nothing was found, is no place
abbrev pub put_at : Address → Value → Does Unit
put_at (root shape q) v w = stored v q w
put_at (item shape k j path) v w = put_element k j path v (slice_get (w.arrays k).elements j) w
put_at (constant shape x) v w = outside []
put_at nowhere v w = outside []

-- an address takes a value of its shape alone: what is written has each conversion in it
abbrev pub written : Address → Value → Does Unit
written a v w = cond (is_of (shape_at a) v) (put_at a v w) (outside [])

-- ---- what is made

abbrev mutual
  pub laid : Value → Position → Memory → Memory
  laid unknown q w = w
  laid (single x) q w = with_cell q (holds x) w
  laid (fields vs) q w = all_laid vs q 0 (with_cell q structure w)

  pub all_laid : Values → Position → (i : ℕ) → Memory → Memory
  all_laid no_values q i w = w
  all_laid (next_value v vs) q i w = all_laid vs q (suc i) (laid v (inner q i) w)

-- a place of its own for a value of a shape; there is none for a value of another
abbrev pub made_with : Shape → Value → Does Address
made_with shape v w =
    cond (is_of shape v) (gives [] (root shape (whole (made w.next))) (laid v (whole (made w.next)) (record w { next = suc w.next }))) (outside [])

-- ---- arrays

abbrev pub product : List ℕ → ℕ
product [] = 1
product (c ∷ cs) = c * product cs

-- how many elements an array may have
abbrev pub most_elements : ℕ
most_elements = 2147483647

-- an array, and the reference to it
abbrev pub new_array : Array → Does Value
new_array a w = gives [] (single (n.Array w.next_array)) (record w { arrays = updated_at w.arrays w.next_array a; next_array = suc w.next_array })

-- an array of elements that nothing was assigned to; one of more than there may be in all has no meaning
abbrev pub array_made : (element : Shape) → (counts : List ℕ) → Does Value
array_made element counts w =
    cond (nat_le (product counts) most_elements)
    (new_array (record { element = element; counts = counts; elements = replicate (product counts) (default_of element) }) w)
    (outside [])

-- the same elements as far as there are as many, and new ones behind them
abbrev pub preserved : (count : ℕ) → (default : Value) → List Value → List Value
preserved count default old = take count old ++ replicate (count - length old) default

-- an array that keeps elements has one dimension: a ReDim Preserve of two isn't written
abbrev pub array_kept : (element : Shape) → (counts : List ℕ) → (old : List Value) → Does Value
array_kept element [] old w = outside []
array_kept element (c ∷ []) old w =
    cond (nat_le c most_elements)
    (new_array (record { element = element; counts = c ∷ []; elements = preserved c (default_of element) old }) w)
    (outside [])
array_kept element (c ∷ d ∷ counts) old w = outside []

-- Goes on with the array that a reference is to: 91 where it is Nothing. What is no array has no elements.
abbrev pub on_array : {A : Type 0} → Value → (ℕ → Does A) → Does A
on_array (single (n.Array k)) go w = go k w
on_array (single n.Nothing) go w = raises [] 91 w
on_array (single x) go w = outside []
on_array unknown go w = outside []
on_array (fields vs) go w = outside []

-- an array with the same elements; the arrays in them are shared
abbrev pub cloned : Value → Does Value
cloned v w = on_array v (λ k w. new_array (w.arrays k) w) w

-- ---- elements

-- an index counts from 0 and is an Integer: 9 where the dimension has none such
abbrev pub index_in : (count : ℕ) → Value → Answer ℕ
index_in count (single (n.Integer (pos i))) = cond (nat_lt i count) (value.gives i) (value.raises 9)
index_in count (single (n.Integer (negsuc i))) = value.raises 9
index_in count (single x) = value.outside
index_in count unknown = value.outside
index_in count (fields vs) = value.outside

-- the place of an element, the last index varying fastest; there are as many indexes as dimensions
abbrev pub place_in : (counts : List ℕ) → (indexes : List Value) → (before : ℕ) → Answer ℕ
place_in [] [] k = value.gives k
place_in [] (i ∷ indexes) k = value.outside
place_in (c ∷ counts) [] k = value.outside
place_in (c ∷ counts) (i ∷ indexes) k = then_answer (index_in c i) (λ j. place_in counts indexes (k * c + j))

-- the last check of an element
abbrev pub element_at : (element : Shape) → (array : Value) → (indexes : List Value) → Does Address
element_at shape a indexes w =
    on_array a (λ k w. then (answered (place_in (w.arrays k).counts indexes 0) w) (λ j w. gives [] (item shape k j []) w)) w

-- ---- objects

-- Goes on with the number of an object: 91 where it is Nothing. What is no object has no members.
abbrev pub on_object : {A : Type 0} → Value → (ℕ → Does A) → Does A
on_object (single (n.Object o)) go w = go o w
on_object (single n.Nothing) go w = raises [] 91 w
on_object (single x) go w = outside []
on_object unknown go w = outside []
on_object (fields vs) go w = outside []

-- the last check of a variable of an object
abbrev pub field_at : Shape → (object : Value) → Key → Does Address
field_at shape v key w = on_object v (λ o w. gives [] (root shape (whole (field o key))) w) w

-- ---- fields of structures

abbrev pub inner_address : Address → ℕ × Shape → Option Address
inner_address (root shape q) f = Some (root f.1 (inner q f.0))
inner_address (item shape k j path) f = Some (item f.1 k j (f.0 ∷ path))
inner_address (constant shape v) f = option_map (λ x. constant f.1 x) (field_value f.0 v)
inner_address nowhere f = None

abbrev pub inner_of : Address → Option (ℕ × Shape) → Address
inner_of a None = nowhere
inner_of a (Some f) = or_nowhere (inner_address a f)

-- the field of a name
abbrev pub structure_field : Address → Fields → List ℕ → Address
structure_field a fs name = inner_of a (field_named name 0 fs)
