-- Which nodes can raise, and which expressions are constant.
use Rattle.std.specs.Prelude.{ℕ, Bool, true, false, not, ◌||◌, ◌&&◌, is_some, List}
use Rattle.std.specs.List.{list_any, list_all}
use Rattle.vb_tree.specs.BoundTree.{Ty, boolean, byte, integer, long, currency, str, class, object, variant}
use Rattle.vb_tree.specs.declared.bound.LibCall.{LibCall}
use Rattle.vb_tree.specs.declared.bound.LibCall.TheVariants as lib
use Rattle.vb_tree.specs.declared.expression.BinOp.{BinOp}
use Rattle.vb_tree.specs.declared.expression.BinOp.TheVariants as b
use Rattle.vb_tree.specs.declared.expression.UnOp.{UnOp}
use Rattle.vb_tree.specs.declared.expression.UnOp.TheVariants as u
use Rattle.bound_tree.specs.Tree.{Expr, typed, Term, constant, variable, field, element, call, library, unary, binary, convert, new_object, me, with_object, err_number, err_raise, err_clear, is_same, loose, Exprs, no_exprs, next_expr, Declarations}
use Rattle.bound_facts.specs.Nodes.{nodes}
use Rattle.bound_facts.specs.Node.{type_at, is_object_type, is_variant, created_in}

abbrev pub is_me_in : Term → Bool
is_me_in me = true
is_me_in _ = false

abbrev pub is_me : Expr → Bool
is_me (typed ty t) = is_me_in t

abbrev pub is_constant_in : Term → Bool
is_constant_in (constant v origin) = true
is_constant_in _ = false

-- a literal, or a use of a constant
abbrev pub is_constant_node : Expr → Bool
is_constant_node (typed ty t) = is_constant_in t

-- ---- conversions

-- whether a conversion to a type has a value for each value of any other type that converts to it
abbrev pub takes_all : Ty → Bool
takes_all boolean = true
takes_all str = true
takes_all variant = true
takes_all object = true
takes_all (class c) = true
takes_all _ = false

-- whether a conversion between two types can't leave the range of the second (MS-VBAL, Let-coercion)
abbrev pub is_safe : Ty → Ty → Bool
is_safe boolean to = true
is_safe byte byte = true
is_safe byte integer = true
is_safe byte long = true
is_safe byte currency = true
is_safe integer integer = true
is_safe integer long = true
is_safe integer currency = true
is_safe long long = true
is_safe long currency = true
is_safe currency currency = true
is_safe variant currency = true
is_safe from to = takes_all to

-- a constant that doesn't convert breaks a rule, so that a conversion of one raises nothing
abbrev pub converts_safely : Ty → Expr → Bool
converts_safely to e = is_constant_node e || is_safe (type_at e) to

abbrev pub first_converts : Ty → Exprs → Bool
first_converts to no_exprs = false
first_converts to (next_expr e rest) = converts_safely to e

-- ---- operators and library calls

abbrev pub is_calm_lib : LibCall → Exprs → Bool
is_calm_lib lib.Len args = true
is_calm_lib lib.IsEmpty args = true
is_calm_lib lib.CBool args = first_converts boolean args
is_calm_lib lib.CByte args = first_converts byte args
is_calm_lib lib.CInt args = first_converts integer args
is_calm_lib lib.CLng args = first_converts long args
is_calm_lib lib.CCur args = first_converts currency args
is_calm_lib lib.CStr args = first_converts str args
is_calm_lib _ args = false

-- comparisons, logical operators and `&`
abbrev pub is_calm_op : BinOp → Bool
is_calm_op b.Concat = true
is_calm_op b.Equal = true
is_calm_op b.NotEqual = true
is_calm_op b.Less = true
is_calm_op b.Greater = true
is_calm_op b.LessEqual = true
is_calm_op b.GreaterEqual = true
is_calm_op b.Is = true
is_calm_op b.And = true
is_calm_op b.Or = true
is_calm_op b.Xor = true
is_calm_op b.Eqv = true
is_calm_op b.Imp = true
is_calm_op _ = false

abbrev pub is_calm_sign : UnOp → Bool
is_calm_sign u.Not = true
is_calm_sign u.Neg = false

-- ---- nodes

abbrev pub is_from_variant : Term → Bool
is_from_variant (convert to e) = is_variant (type_at e)
is_from_variant _ = false

-- an operand that is a Variant, or was one before it was converted for the operator
abbrev pub is_variant_operand : Expr → Bool
is_variant_operand (typed ty t) = is_variant ty || is_from_variant t

-- whether a node itself can raise; the use of an As New variable can, since it may make an object
abbrev pub raises_by : Term → Bool
raises_by (constant v origin) = false
raises_by (variable v qualified) = false
raises_by (field e k) = is_object_type (type_at e) && not (is_me e)
raises_by (element e indexes) = true
raises_by (call p qualified of args) = true
raises_by (library function args) = not (is_calm_lib function args)
raises_by (unary op e) = not (is_calm_sign op) || is_variant_operand e
raises_by (binary op e f) = not (is_calm_op op) || (is_variant_operand e || is_variant_operand f)
raises_by (convert to e) = not (converts_safely to e)
raises_by (new_object c) = true
raises_by me = false
raises_by (with_object root) = false
raises_by err_number = true
raises_by (err_raise e) = true
raises_by err_clear = true
raises_by (is_same e f) = false
raises_by (loose e rules) = false

abbrev pub raises_in : Declarations → Term → Bool
raises_in D t = raises_by t || is_some (created_in D t)

abbrev pub raises : Declarations → Expr → Bool
raises D (typed ty t) = raises_in D t

abbrev pub can_raise : Declarations → Expr → Bool
can_raise D e = list_any (raises D) (nodes e)

-- what the head of a block is asked: there the number of the Err object can't raise
abbrev pub is_error_number_in : Term → Bool
is_error_number_in err_number = true
is_error_number_in _ = false

abbrev pub is_error_number : Expr → Bool
is_error_number (typed ty t) = is_error_number_in t

abbrev pub head_can_raise : Declarations → Expr → Bool
head_can_raise D e = list_any (λ x. raises D x && not (is_error_number x)) (nodes e)

-- ---- constant expressions

-- whether a node is one of those that constant expressions are made of; Me and the object of a With are constant
abbrev pub is_fixed_in : Term → Bool
is_fixed_in (constant v origin) = true
is_fixed_in (unary op e) = true
is_fixed_in (binary op e f) = true
is_fixed_in (convert to e) = true
is_fixed_in (is_same e f) = true
is_fixed_in me = true
is_fixed_in (with_object root) = true
is_fixed_in _ = false

abbrev pub is_fixed : Expr → Bool
is_fixed (typed ty t) = is_fixed_in t

abbrev pub is_constant : Expr → Bool
is_constant e = list_all is_fixed (nodes e)
