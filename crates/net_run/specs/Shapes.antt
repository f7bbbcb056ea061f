-- Shapes: types with their names resolved; what a variable of a type begins with, and which values it may hold.
use Rattle.std.specs.Prelude.{ℕ, zero, suc, ◌*◌, nat_eq, pos, Bool, true, false, cond, ◌&&◌, List, [], ◌∷◌, length, filter, sum_by, Option, Some, None}
use Rattle.up_base.specs.Names.{is_same_name}
use Rattle.net_tree.specs.Tree.{Member, member_comment, variable, const_member, structure, property, proc, Module, Project, Field, field_comment, field}
use Rattle.net_tree.specs.Types.{TypeName}
use Rattle.net_tree.specs.Types as t
use Rattle.net_meaning.specs.declared.value.ValueN.{ValueN}
use Rattle.net_meaning.specs.declared.value.ValueN.TheVariants as n
use Rattle.net_run.specs.Values.{Value, unknown, single, fields, Values, no_values, next_value}

-- A scalar type by its word; a class by the number of its module; a structure by the number of its module and of its member there, with its
-- fields; an array of elements with its rank. A type that holds itself is shapeless, and so is a name that declares none: no value is of it.
mutual
  pub data Shape : Type 0 where
    scalar : TypeName → Shape
    class : (home : ℕ) → Shape
    structured : (home member : ℕ) → Fields → Shape
    array : (element : Shape) → (rank : ℕ) → Shape
    shapeless : Shape

  pub data Fields : Type 0 where
    no_fields : Fields
    next_field : (name : List ℕ) → Shape → Fields → Fields

-- ---- names in lists

-- the first item that passes a test, with its number, of items that are numbered from k
abbrev pub first_from : {A : Type 0} → (A → Bool) → (k : ℕ) → List A → Option (ℕ × A)
first_from test k [] = None
first_from test k (x ∷ xs) = cond (test x) (Some (k, x)) (first_from test (suc k) xs)

-- names are compared without case
abbrev pub module_named : Project → List ℕ → Option (ℕ × Module)
module_named N name = first_from (λ (m : Module). is_same_name m.name name) 0 N.modules

abbrev pub is_structure : Member → Bool
is_structure (member_comment units) = false
is_structure (variable visibility v) = false
is_structure (const_member visibility c) = false
is_structure (structure s) = true
is_structure (property p) = false
is_structure (proc p) = false

abbrev pub is_structure_named : List ℕ → Member → Bool
is_structure_named name (member_comment units) = false
is_structure_named name (variable visibility v) = false
is_structure_named name (const_member visibility c) = false
is_structure_named name (structure s) = is_same_name s.name name
is_structure_named name (property p) = false
is_structure_named name (proc p) = false

abbrev pub fields_in : Member → List Field
fields_in (member_comment units) = []
fields_in (variable visibility v) = []
fields_in (const_member visibility c) = []
fields_in (structure s) = s.fields
fields_in (property p) = []
fields_in (proc p) = []

-- ---- the shape of a type that is named in a module

-- the fields of a structure, by the shapes of their types; comments are none
abbrev pub fields_by : (TypeName → Shape) → List Field → Fields
fields_by shape [] = no_fields
fields_by shape (field_comment units ∷ fs) = fields_by shape fs
fields_by shape (field name ty ∷ fs) = next_field name (shape ty) (fields_by shape fs)

abbrev pub structure_by : (ℕ → TypeName → Shape) → (home : ℕ) → ℕ × Member → Shape
structure_by shape home found = structured home found.0 (fields_by (shape home) (fields_in found.1))

abbrev pub structure_found : (ℕ → TypeName → Shape) → (home : ℕ) → (otherwise : Shape) → Option (ℕ × Member) → Shape
structure_found shape home otherwise None = otherwise
structure_found shape home otherwise (Some found) = structure_by shape home found

-- a structure of a module, else what stands for it
abbrev pub structure_or : (ℕ → TypeName → Shape) → (home : ℕ) → List ℕ → List Member → (otherwise : Shape) → Shape
structure_or shape home name members otherwise = structure_found shape home otherwise (first_from (is_structure_named name) 0 members)

abbrev pub class_by : Option (ℕ × Module) → Shape
class_by None = shapeless
class_by (Some found) = cond found.1.class (class found.0) shapeless

abbrev pub members_of : Option Module → List Member
members_of None = []
members_of (Some m) = m.members

abbrev pub foreign_structure : (ℕ → TypeName → Shape) → List ℕ → Option (ℕ × Module) → Shape
foreign_structure shape name None = shapeless
foreign_structure shape name (Some found) = structure_or shape found.0 name found.1.members shapeless

-- the module of a number
abbrev pub module_in : List Module → ℕ → Option Module
module_in [] k = None
module_in (m ∷ ms) zero = Some m
module_in (m ∷ ms) (suc k) = module_in ms k

abbrev pub module_at : Project → ℕ → Option Module
module_at N k = module_in N.modules k

-- one name is a structure of the module, else a class; behind the name of a module stands a structure of it
abbrev pub named_by : (ℕ → TypeName → Shape) → Project → (home : ℕ) → List (List ℕ) → Shape
named_by shape N home [] = shapeless
named_by shape N home (name ∷ []) = structure_or shape home name (members_of (module_at N home)) (class_by (module_named N name))
named_by shape N home (of ∷ name ∷ []) = foreign_structure shape name (module_named N of)
named_by shape N home (of ∷ name ∷ more ∷ names) = shapeless

abbrev pub shape_by : (ℕ → TypeName → Shape) → Project → (home : ℕ) → TypeName → Shape
shape_by shape N home t.boolean = scalar t.boolean
shape_by shape N home t.byte = scalar t.byte
shape_by shape N home t.short = scalar t.short
shape_by shape N home t.integer = scalar t.integer
shape_by shape N home t.long = scalar t.long
shape_by shape N home t.decimal = scalar t.decimal
shape_by shape N home t.str = scalar t.str
shape_by shape N home t.object = scalar t.object
shape_by shape N home t.system_array = scalar t.system_array
shape_by shape N home (t.named path) = named_by shape N home path
shape_by shape N home (t.array_of element rank) = array (shape home element) rank

-- a type that is no more than so many structures and arrays inside of each other
abbrev pub shape_within : Project → (depth : ℕ) → (home : ℕ) → TypeName → Shape
shape_within N zero home ty = shapeless
shape_within N (suc depth) home ty = shape_by (shape_within N depth) N home ty

-- no type that doesn't hold itself is deeper: each structure once, in an array
abbrev pub most_depth : Project → ℕ
most_depth N = suc (suc (2 * sum_by (λ (m : Module). length (filter is_structure m.members)) N.modules))

abbrev pub shape_of : Project → (home : ℕ) → TypeName → Shape
shape_of N home ty = shape_within N (most_depth N) home ty

-- ---- comparing

abbrev pub is_same_word : TypeName → TypeName → Bool
is_same_word t.boolean t.boolean = true
is_same_word t.byte t.byte = true
is_same_word t.short t.short = true
is_same_word t.integer t.integer = true
is_same_word t.long t.long = true
is_same_word t.decimal t.decimal = true
is_same_word t.str t.str = true
is_same_word t.object t.object = true
is_same_word t.system_array t.system_array = true
is_same_word _ _ = false

-- a structure is the one that its declaration is
abbrev pub is_same_shape : Shape → Shape → Bool
is_same_shape (scalar a) (scalar b) = is_same_word a b
is_same_shape (class a) (class b) = nat_eq a b
is_same_shape (structured a m fs) (structured b k gs) = nat_eq a b && nat_eq m k
is_same_shape (array a m) (array b k) = is_same_shape a b && nat_eq m k
is_same_shape _ _ = false

abbrev pub element_of : Shape → Shape
element_of (scalar ty) = shapeless
element_of (class c) = shapeless
element_of (structured home m fs) = shapeless
element_of (array element rank) = element
element_of shapeless = shapeless

abbrev pub rank_of : Shape → ℕ
rank_of (scalar ty) = 0
rank_of (class c) = 0
rank_of (structured home m fs) = 0
rank_of (array element rank) = rank
rank_of shapeless = 0

-- the number and the shape of a field, of fields that are numbered from i
abbrev pub field_named : List ℕ → (i : ℕ) → Fields → Option (ℕ × Shape)
field_named name i no_fields = None
field_named name i (next_field other shape fs) = cond (is_same_name other name) (Some (i, shape)) (field_named name (suc i) fs)

-- ---- values of a shape

-- what a variable begins with for which nothing else is written; a String and an array begin as Nothing
abbrev pub default_of_word : TypeName → Value
default_of_word t.boolean = single (n.Boolean false)
default_of_word t.byte = single (n.Byte 0)
default_of_word t.short = single (n.Short (pos 0))
default_of_word t.integer = single (n.Integer (pos 0))
default_of_word t.long = single (n.Long (pos 0))
default_of_word t.decimal = single (n.Decimal (pos 0) 0)
default_of_word t.str = single n.Nothing
default_of_word t.object = single n.Nothing
default_of_word t.system_array = single n.Nothing
default_of_word (t.named path) = unknown
default_of_word (t.array_of element rank) = unknown

abbrev mutual
  pub default_of : Shape → Value
  default_of (scalar ty) = default_of_word ty
  default_of (class c) = single n.Nothing
  default_of (structured home m fs) = fields (defaults_of fs)
  default_of (array element rank) = single n.Nothing
  default_of shapeless = unknown

  pub defaults_of : Fields → Values
  defaults_of no_fields = no_values
  defaults_of (next_field name shape fs) = next_value (default_of shape) (defaults_of fs)

-- whether a single value is one of a scalar type; an Object holds any but an array
abbrev pub is_of_word : TypeName → ValueN → Bool
is_of_word t.boolean (n.Boolean b) = true
is_of_word t.byte (n.Byte m) = true
is_of_word t.short (n.Short z) = true
is_of_word t.integer (n.Integer z) = true
is_of_word t.long (n.Long z) = true
is_of_word t.decimal (n.Decimal m s) = true
is_of_word t.str (n.Str units) = true
is_of_word t.str n.Nothing = true
is_of_word t.object (n.Array k) = false
is_of_word t.object x = true
is_of_word t.system_array (n.Array k) = true
is_of_word t.system_array n.Nothing = true
is_of_word _ x = false

abbrev pub is_object : ValueN → Bool
is_object (n.Object o) = true
is_object n.Nothing = true
is_object _ = false

abbrev pub is_array : ValueN → Bool
is_array (n.Array k) = true
is_array n.Nothing = true
is_array _ = false

-- Whether a value is one of a shape. The class of an object and the elements of an array are known to the memory alone.
abbrev mutual
  pub is_of : Shape → Value → Bool
  is_of shape unknown = false
  is_of (scalar ty) (single x) = is_of_word ty x
  is_of (class c) (single x) = is_object x
  is_of (structured home m fs) (single x) = false
  is_of (array element rank) (single x) = is_array x
  is_of shapeless (single x) = false
  is_of (structured home m fs) (fields vs) = are_of fs vs
  is_of (scalar ty) (fields vs) = false
  is_of (class c) (fields vs) = false
  is_of (array element rank) (fields vs) = false
  is_of shapeless (fields vs) = false

  pub are_of : Fields → Values → Bool
  are_of no_fields no_values = true
  are_of no_fields (next_value v vs) = false
  are_of (next_field name shape fs) no_values = false
  are_of (next_field name shape fs) (next_value v vs) = is_of shape v && are_of fs vs

-- the type of a value that nothing declares: that of a literal or of what an operator gives
abbrev pub word_of : ValueN → TypeName
word_of (n.Boolean b) = t.boolean
word_of (n.Byte m) = t.byte
word_of (n.Short z) = t.short
word_of (n.Integer z) = t.integer
word_of (n.Long z) = t.long
word_of (n.Decimal m s) = t.decimal
word_of (n.Str units) = t.str
word_of n.Nothing = t.object
word_of (n.Object o) = t.object
word_of (n.Array k) = t.system_array
