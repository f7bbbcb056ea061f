-- Trees of values: a single value, or a structure by its fields.
use Rattle.std.specs.Prelude.{ℕ, zero, suc, List, [], ◌∷◌, Option, Some, None}
use Rattle.net_meaning.specs.declared.value.ValueN.{ValueN}

-- An array in a structure is a reference to it by its number, and so is an object. `unknown` is what a read gives that finds nothing: no use
-- of it has a meaning.
mutual
  pub data Value : Type 0 where
    unknown : Value
    single : ValueN → Value
    fields : Values → Value

  pub data Values : Type 0 where
    no_values : Values
    next_value : Value → Values → Values

abbrev pub or_unknown : Option Value → Value
or_unknown None = unknown
or_unknown (Some v) = v

-- the value of the field of a number, counted from 0
abbrev pub value_at : Values → ℕ → Option Value
value_at no_values i = None
value_at (next_value v vs) zero = Some v
value_at (next_value v vs) (suc i) = value_at vs i

abbrev pub with_value_at : Values → ℕ → Value → Values
with_value_at no_values i x = no_values
with_value_at (next_value v vs) zero x = next_value x vs
with_value_at (next_value v vs) (suc i) x = next_value v (with_value_at vs i x)

abbrev pub field_value : ℕ → Value → Option Value
field_value i unknown = None
field_value i (single x) = None
field_value i (fields vs) = value_at vs i

abbrev pub with_field_value : ℕ → Value → Value → Value
with_field_value i unknown x = unknown
with_field_value i (single v) x = single v
with_field_value i (fields vs) x = fields (with_value_at vs i x)

abbrev pub field_of_some : ℕ → Option Value → Option Value
field_of_some i None = None
field_of_some i (Some v) = field_value i v

-- the part at a path of fields, the innermost first, and the value with that part changed
abbrev pub part_at : List ℕ → Value → Option Value
part_at [] v = Some v
part_at (i ∷ path) v = field_of_some i (part_at path v)

abbrev pub with_field_of_some : ℕ → Option Value → Value → Value
with_field_of_some i None x = x
with_field_of_some i (Some v) x = with_field_value i v x

abbrev pub with_part_at : List ℕ → Value → Value → Value
with_part_at [] v x = x
with_part_at (i ∷ path) v x = with_part_at path v (with_field_of_some i (part_at path v) x)
