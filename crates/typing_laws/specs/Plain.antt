-- Scalars of covered types, within the limits of their types, arrays of them, and user types of such scalars.
use Rattle.std.specs.Prelude.{◌≡◌, ℕ, ℤ, pos, Bool, true, false, List, [], ◌∷◌, Some, slice_get}
use Rattle.vb_tree.specs.BoundTree as types
use Rattle.vb_tree.specs.BoundTree.{Ty}
use Rattle.vb_tree.specs.declared.declared.VarId.{VarId}
use Rattle.vb_tree.specs.declared.value.Value6.{Value6}
use Rattle.vb_tree.specs.declared.value.Value6.TheVariants as v
use Rattle.vb6_meaning.specs.declared.number.NumberKind.TheVariants as kinds
use Rattle.vb6_meaning.specs.Kinds.{fits}
use Rattle.bound_tree.specs.declared.declared.TypeDecl.{TypeDecl}
use Rattle.bound_tree.specs.Tree.{Variable, Declarations}
use Rattle.bound_facts.specs.Node.{is_array_type}
use Rattle.vb6_run.specs.Shapes.{Shape, simple, group, array, Shapes, no_shapes, next_shape}
use Rattle.vb6_run.specs.Store.{Held, single, table, parts}
use Rattle.vb6_run.specs.Values.{Dimension, Value, scalar, fields, Values, no_values, next_value}
use Rattle.run_matches.specs.CoveredVariables.{covers_type}
use Rattle.run_matches.specs.Typed.{IsSized}

-- a value of a covered type, within the limits of the type
pub data Plain : Ty → Value6 → Type 0 where
  a_boolean : (b : Bool) → Plain types.boolean (v.Boolean b)
  a_byte : (m : ℕ) → fits kinds.Byte (pos m) ≡ true → Plain types.byte (v.Byte m)
  an_integer : (z : ℤ) → fits kinds.Integer z ≡ true → Plain types.integer (v.Int z)
  a_long : (z : ℤ) → fits kinds.Long z ≡ true → Plain types.long (v.Long z)
  a_currency : (z : ℤ) → fits kinds.Currency z ≡ true → Plain types.currency (v.Cur z)
  a_text : (units : List ℕ) → Plain types.str (v.Str units)

-- the same with its type
abbrev pub IsValue : Ty → Value → Type 0
IsValue ty x = (z : Value6) × (x ≡ scalar ty z) × Plain ty z

-- a value of a shape: a scalar, or a user type with a value of each field
abbrev mutual
  pub IsWhole : Shape → Value → Type 0
  IsWhole (simple ty) x = IsValue ty x
  IsWhole (group t fs) (fields u xs) = (u ≡ t) × AreWhole fs xs
  IsWhole _ _ = ⊥

  pub AreWhole : Shapes → Values → Type 0
  AreWhole no_shapes no_values = Unit {0}
  AreWhole (next_shape s rest) (next_value x xs) = IsWhole s x × AreWhole rest xs
  AreWhole _ _ = ⊥

-- elements of a type
pub data EachPlain : Ty → Values → Type 0 where
  none_plain : (ty : Ty) → EachPlain ty no_values
  next_plain : (ty : Ty) (z : Value6) (xs : Values) → Plain ty z → EachPlain ty xs → EachPlain ty (next_value (scalar ty z) xs)

-- what a variable of a type holds: a scalar, an array of scalars, or a user type, whose fields stand at positions of their own
pub data Holds : Ty → Held → Type 0 where
  holds_scalar : (ty : Ty) (z : Value6) → Plain ty z → Holds ty (single ty z)
  holds_array :
      (e : Ty) (rank : ℕ) (dims : List Dimension) (xs : Values) → covers_type e ≡ true → IsSized dims xs → EachPlain e xs
      → Holds (types.array e rank) (table (simple e) dims xs)
  holds_parts : (t : ℕ) → Holds (types.user t) parts

mutual
  -- the shapes of variables of a type: a scalar, an array with any bounds, or a user type with the fields that it is declared with
  pub data IsShapeOf (D : Declarations) : Ty → Shape → Type 0 where
    scalar_shape : (ty : Ty) → covers_type ty ≡ true → IsShapeOf D ty (simple ty)
    array_shape : (e : Ty) (rank : ℕ) (bounds : List (ℤ × ℤ)) → covers_type e ≡ true → IsShapeOf D (types.array e rank) (array (simple e) bounds)
    user_shape : (t : ℕ) (d : TypeDecl) (fs : Shapes) → slice_get D.types t ≡ Some d → AreShapesOf D d.fields fs → IsShapeOf D (types.user t) (group t fs)

  -- those of fields, none of which is an array
  pub data AreShapesOf (D : Declarations) : List VarId → Shapes → Type 0 where
    no_fields : AreShapesOf D [] no_shapes
    next_field :
        (v : VarId) (vs : List VarId) (x : Variable) (s : Shape) (fs : Shapes) → slice_get D.vars v.0 ≡ Some x → is_array_type x.ty ≡ false
        → IsShapeOf D x.ty s → AreShapesOf D vs fs → AreShapesOf D (v ∷ vs) (next_shape s fs)

-- a value of a type: a scalar, or a user type with a value of each field
abbrev pub IsValueOf : Declarations → Ty → Value → Type 0
IsValueOf D ty x = (d : Shape) × IsShapeOf D ty d × IsWhole d x
