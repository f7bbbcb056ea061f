-- Which covered expressions are well formed: constants within the limits of their types, and operators, conversions and calls of the
-- library of rows.
use Rattle.std.specs.Prelude.{Bool, true, false, ◌&&◌, ◌||◌, List, [], ◌∷◌, Option, Some, None, is_some}
use Rattle.std.specs.Cmp.Lexicographic.{pointwise}
use Rattle.vb_tree.specs.BoundTree as types
use Rattle.vb_tree.specs.BoundTree.{Ty}
use Rattle.vb_tree.specs.declared.bound.LibCall.{LibCall}
use Rattle.vb_tree.specs.declared.bound.LibCall.TheVariants as lib
use Rattle.vb_tree.specs.declared.expression.BinOp.{BinOp}
use Rattle.bound_tree.specs.Tree.{Expr, typed, Term, constant, variable, field, element, call, library, unary, binary, convert, new_object, me, with_object, err_number, err_raise, err_clear, is_same, loose, Exprs, no_exprs, next_expr, Argument, by_value, by_reference, Passed, no_passed, next_passed}
use Rattle.bound_facts.specs.Locks.{is_same_type}
use Rattle.bound_facts.specs.Node.{type_at}
use Rattle.net_meaning.specs.WrittenLiterals.{is_within, type_of_constant}
use Rattle.net_meaning.specs.WrittenRows.{Written, write_operator, write_unary, write_conversion}
use Rattle.row_laws.specs.Constants.{is_literal}
use Rattle.row_laws.specs.Rows.{is_direct, is_ready}

-- a row of the type that the expression has
abbrev pub is_row_of_one : Ty → Option Written → Bool
is_row_of_one ty None = false
is_row_of_one ty (Some w) = is_same_type w.ty ty && is_direct w.row

abbrev pub is_row_of_two : BinOp → Ty → Option Written → Bool
is_row_of_two o ty None = false
is_row_of_two o ty (Some w) = is_same_type w.ty ty && is_ready o w

-- ---- calls of the library

abbrev pub types_of : Exprs → List Ty
types_of no_exprs = []
types_of (next_expr e rest) = type_at e ∷ types_of rest

-- a call that takes arguments of these types and gives a value of this one
abbrev pub is_call : (takes : List Ty) → (gives : Ty) → (given : List Ty) → (result : Ty) → Bool
is_call takes gives given ty = is_same_type gives ty && pointwise is_same_type given takes

-- a conversion takes one argument, which stands as it is
abbrev pub is_conversion_to : (to : Ty) → (given : List Ty) → (result : Ty) → Bool
is_conversion_to to [] ty = false
is_conversion_to to (s ∷ []) ty = is_same_type to ty && is_some (write_conversion s to)
is_conversion_to to (s ∷ t ∷ ts) ty = false

-- a number that can be below zero
abbrev pub is_signed : Ty → Bool
is_signed types.integer = true
is_signed types.long = true
is_signed types.currency = true
is_signed _ = false

-- texts are of type String and counts of type Long
abbrev pub is_row_of_call : LibCall → (given : List Ty) → (result : Ty) → Bool
is_row_of_call lib.Len ts ty = is_call (types.str ∷ []) types.long ts ty
is_row_of_call lib.Left ts ty = is_call (types.str ∷ types.long ∷ []) types.str ts ty
is_row_of_call lib.Right ts ty = is_call (types.str ∷ types.long ∷ []) types.str ts ty
is_row_of_call lib.Mid ts ty =
    is_call (types.str ∷ types.long ∷ []) types.str ts ty || is_call (types.str ∷ types.long ∷ types.long ∷ []) types.str ts ty
is_row_of_call lib.Trim ts ty = is_call (types.str ∷ []) types.str ts ty
is_row_of_call lib.LTrim ts ty = is_call (types.str ∷ []) types.str ts ty
is_row_of_call lib.RTrim ts ty = is_call (types.str ∷ []) types.str ts ty
is_row_of_call lib.UCase ts ty = is_call (types.str ∷ []) types.str ts ty
is_row_of_call lib.LCase ts ty = is_call (types.str ∷ []) types.str ts ty
is_row_of_call lib.Space ts ty = is_call (types.long ∷ []) types.str ts ty
is_row_of_call lib.Chr ts ty = is_call (types.long ∷ []) types.str ts ty
is_row_of_call lib.Asc ts ty = is_call (types.str ∷ []) types.integer ts ty
is_row_of_call lib.InStr ts ty = is_call (types.str ∷ types.str ∷ []) types.long ts ty
is_row_of_call lib.Abs ts ty = is_signed ty && is_call (ty ∷ []) ty ts ty
is_row_of_call lib.CBool ts ty = is_conversion_to types.boolean ts ty
is_row_of_call lib.CByte ts ty = is_conversion_to types.byte ts ty
is_row_of_call lib.CInt ts ty = is_conversion_to types.integer ts ty
is_row_of_call lib.CLng ts ty = is_conversion_to types.long ts ty
is_row_of_call lib.CCur ts ty = is_conversion_to types.currency ts ty
is_row_of_call lib.CStr ts ty = is_conversion_to types.str ts ty
is_row_of_call lib.IsEmpty ts ty = is_call (types.variant ∷ []) types.boolean ts ty
is_row_of_call lib.UBound ts ty = is_same_type types.long ty
is_row_of_call lib.LBound ts ty = is_same_type types.long ty
is_row_of_call lib.MsgBox ts ty = is_call (types.str ∷ []) types.nothing ts ty
is_row_of_call lib.InputBox ts ty = is_call (types.str ∷ []) types.str ts ty

-- ---- elements

-- elements of a type
abbrev pub has_elements : Ty → Ty → Bool
has_elements (types.array e rank) ty = is_same_type e ty
has_elements _ ty = false

-- one or two indexes of type Long
abbrev pub are_longs : List Ty → Bool
are_longs (t ∷ []) = is_same_type types.long t
are_longs (s ∷ t ∷ []) = is_same_type types.long s && is_same_type types.long t
are_longs ts = false

-- ---- expressions

abbrev mutual
  pub is_formed : Expr → Bool
  is_formed (typed ty t) = is_formed_term ty t

  pub is_formed_term : Ty → Term → Bool
  is_formed_term ty (constant x origin) = is_same_type (type_of_constant x) ty && (is_within x && is_literal x)
  is_formed_term ty (variable v qualified) = true
  is_formed_term ty (field e k) = true
  is_formed_term ty (element e indexes) = has_elements (type_at e) ty && (are_longs (types_of indexes) && are_formed indexes)
  is_formed_term ty (call p qualified of args) = passed_are_formed args
  is_formed_term ty (library f args) = is_row_of_call f (types_of args) ty && are_formed args
  is_formed_term ty (unary o e) = is_row_of_one ty (write_unary o (type_at e)) && is_formed e
  is_formed_term ty (binary o d e) = is_row_of_two o ty (write_operator o (type_at d) (type_at e)) && (is_formed d && is_formed e)
  is_formed_term ty (convert to e) = is_some (write_conversion (type_at e) to) && is_formed e
  is_formed_term ty (new_object c) = true
  is_formed_term ty me = true
  is_formed_term ty (with_object root) = false
  is_formed_term ty err_number = is_same_type types.long ty
  is_formed_term ty (err_raise e) = is_same_type (type_at e) types.long && is_formed e
  is_formed_term ty err_clear = true
  is_formed_term ty (is_same d e) = is_same_type types.boolean ty && (is_formed d && is_formed e)
  is_formed_term ty (loose e rules) = false

  pub are_formed : Exprs → Bool
  are_formed no_exprs = true
  are_formed (next_expr e rest) = is_formed e && are_formed rest

  -- the values of arguments
  pub passed_are_formed : Passed → Bool
  passed_are_formed no_passed = true
  passed_are_formed (next_passed a rest) = is_formed_argument a && passed_are_formed rest

  pub is_formed_argument : Argument → Bool
  is_formed_argument (by_value e) = is_formed e
  is_formed_argument (by_reference e) = is_formed e
