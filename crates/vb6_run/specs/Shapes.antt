-- The types of a project taken apart once: what variables, fields and elements are made of.
use Rattle.std.specs.Prelude.{ℕ, ℤ, Bool, List, Option, Some, None, false, zero, suc, length, nat_eq, slice_get, option_and_then, [], ◌∷◌}
use Rattle.vb_tree.specs.BoundTree.{Ty, boolean, byte, integer, long, currency, str, fixed, user, class, object, variant, nothing, unknown}
use Rattle.vb_tree.specs.BoundTree as types
use Rattle.vb_tree.specs.declared.declared.VarId.{VarId}
use Rattle.bound_tree.specs.declared.declared.TypeDecl.{TypeDecl}
use Rattle.bound_tree.specs.Tree.{Variable, Declarations}
use Rattle.bound_facts.specs.Locks.{is_same_type}

mutual
  pub data Shape : Type 0 where
    simple : Ty → Shape
    -- a user type by its number, with its fields
    group : (user_type : ℕ) → Shapes → Shape
    -- an array with its elements and the lower and upper bounds of a fixed one; a dynamic one has none
    array : (element : Shape) → (bounds : List (ℤ × ℤ)) → Shape
    -- a type that holds itself, or that isn't declared: such a declaration breaks a rule, and nothing is made of it
    endless : Shape

  pub data Shapes : Type 0 where
    no_shapes : Shapes
    next_shape : Shape → Shapes → Shapes

-- ---- the shape of a type

-- the shape of a type by those of the user types; an array has these bounds
abbrev pub shape_by : (users : ℕ → Shape) → (bounds : List (ℤ × ℤ)) → Ty → Shape
shape_by users bounds boolean = simple boolean
shape_by users bounds byte = simple byte
shape_by users bounds integer = simple integer
shape_by users bounds long = simple long
shape_by users bounds currency = simple currency
shape_by users bounds str = simple str
shape_by users bounds (fixed units) = simple (fixed units)
shape_by users bounds (user t) = users t
shape_by users bounds (class c) = simple (class c)
shape_by users bounds object = simple object
shape_by users bounds variant = simple variant
shape_by users bounds (types.array e rank) = array (shape_by users [] e) bounds
shape_by users bounds nothing = simple nothing
shape_by users bounds unknown = simple unknown

abbrev pub declared_shape : (users : ℕ → Shape) → Option Variable → Shape
declared_shape users None = endless
declared_shape users (Some v) = shape_by users v.bounds v.ty

abbrev pub field_shapes : Declarations → (users : ℕ → Shape) → List VarId → Shapes
field_shapes D users [] = no_shapes
field_shapes D users (v ∷ vs) = next_shape (declared_shape users (slice_get D.vars v.0)) (field_shapes D users vs)

abbrev pub group_by : Declarations → (users : ℕ → Shape) → (user_type : ℕ) → Option TypeDecl → Shape
group_by D users t None = endless
group_by D users t (Some d) = group t (field_shapes D users d.fields)

-- the shape of a user type, down to a depth
abbrev pub user_shape : Declarations → (depth user_type : ℕ) → Shape
user_shape D zero t = endless
user_shape D (suc depth) t = group_by D (λ u. user_shape D depth u) t (slice_get D.types t)

-- user types that hold one another are nested as deep as there are any
abbrev pub user_shapes : Declarations → ℕ → Shape
user_shapes D t = user_shape D (length D.types) t

-- the shape of what a declaration declares
abbrev pub variable_shape : Declarations → (variable : ℕ) → Shape
variable_shape D v = declared_shape (user_shapes D) (slice_get D.vars v)

-- ---- shapes compared, and their parts

-- one scalar type, one user type, or arrays of one kind of elements
abbrev pub is_same_shape : Shape → Shape → Bool
is_same_shape (simple s) (simple t) = is_same_type s t
is_same_shape (group s fs) (group t gs) = nat_eq s t
is_same_shape (array e bounds) (array f others) = is_same_shape e f
is_same_shape _ _ = false

abbrev pub shape_at : Shapes → ℕ → Option Shape
shape_at no_shapes k = None
shape_at (next_shape s rest) zero = Some s
shape_at (next_shape s rest) (suc k) = shape_at rest k

-- the shape of a field of a user type
abbrev pub field_shape : ℕ → Shape → Option Shape
field_shape k (simple ty) = None
field_shape k (group t fs) = shape_at fs k
field_shape k (array e bounds) = None
field_shape k endless = None

-- the shape of the part at a path of fields, the innermost first
abbrev pub part_shape : List ℕ → Shape → Option Shape
part_shape [] s = Some s
part_shape (k ∷ path) s = option_and_then (field_shape k) (part_shape path s)
