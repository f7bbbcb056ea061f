-- What one node of an expression is.
use Rattle.std.specs.Prelude.{ℕ, Bool, true, false, cond, Option, Some, None, is_some, List, [], ◌∷◌, slice_get}
use Rattle.vb_tree.specs.BoundTree.{Ty, class, object, variant, array}
use Rattle.vb_tree.specs.declared.bound.LibCall.{LibCall}
use Rattle.vb_tree.specs.declared.bound.LibCall.TheVariants as lib
use Rattle.bound_tree.specs.declared.expression.Root.{Root}
use Rattle.bound_tree.specs.declared.expression.Root.TheVariants.{Variable, Object, Temporary}
use Rattle.bound_tree.specs.Tree as tree
use Rattle.bound_tree.specs.Tree.{Expr, typed, Term, variable, field, element, call, library, new_object, me, with_object, err_raise, err_clear, Argument, by_value, by_reference, Passed, no_passed, Declarations}
use Rattle.bound_facts.specs.Members.{field_of}

abbrev pub type_at : Expr → Ty
type_at (typed ty t) = ty

-- the procedure that a node calls
abbrev pub called_by : Term → Option ℕ
called_by (call p qualified of args) = Some p.0
called_by _ = None

abbrev pub called : Expr → Option ℕ
called (typed ty t) = called_by t

-- its arguments
abbrev pub args_in : Term → Passed
args_in (call p qualified of args) = args
args_in _ = no_passed

abbrev pub args_at : Expr → Passed
args_at (typed ty t) = args_in t

-- the variable that a node is
abbrev pub variable_in : Term → Option ℕ
variable_in (variable v qualified) = Some v.0
variable_in _ = None

abbrev pub variable_at : Expr → Option ℕ
variable_at (typed ty t) = variable_in t

-- the variable or the field that a node is, by the declaration
abbrev pub declared_in : Declarations → Term → Option ℕ
declared_in D (variable v qualified) = Some v.0
declared_in D (field e k) = field_of D (type_at e) k
declared_in D _ = None

abbrev pub declared_at : Declarations → Expr → Option ℕ
declared_at D (typed ty t) = declared_in D t

-- ---- types

abbrev pub is_object_type : Ty → Bool
is_object_type object = true
is_object_type (class c) = true
is_object_type _ = false

abbrev pub is_array_type : Ty → Bool
is_array_type (array ty rank) = true
is_array_type _ = false

abbrev pub is_variant : Ty → Bool
is_variant variant = true
is_variant _ = false

abbrev pub class_in : Ty → Option ℕ
class_in (class c) = Some c
class_in _ = None

-- ---- creations

-- the class of which the use of an As New variable makes an object; an array of them makes none
abbrev pub auto_class : Option tree.Variable → Option ℕ
auto_class None = None
auto_class (Some v) = cond v.auto (class_in v.ty) None

abbrev pub variable_number : List tree.Variable → Option ℕ → Option tree.Variable
variable_number vars None = None
variable_number vars (Some v) = slice_get vars v

abbrev pub created_in : Declarations → Term → Option ℕ
created_in D (new_object c) = Some c.0
created_in D t = auto_class (variable_number D.vars (declared_in D t))

-- the class of which a node makes an object, by New or as the use of an As New variable
abbrev pub created : Declarations → Expr → Option ℕ
created D (typed ty t) = created_in D t

-- ---- outputs and errors

abbrev pub is_asking_lib : LibCall → Bool
is_asking_lib lib.InputBox = true
is_asking_lib _ = false

abbrev pub is_boxing_lib : LibCall → Bool
is_boxing_lib lib.MsgBox = true
is_boxing_lib _ = false

abbrev pub asks_in : Term → Bool
asks_in (library function args) = is_asking_lib function
asks_in _ = false

-- whether a node asks for an input
abbrev pub asks : Expr → Bool
asks (typed ty t) = asks_in t

abbrev pub boxes_in : Term → Bool
boxes_in (library function args) = is_boxing_lib function
boxes_in _ = false

-- whether a node shows a box
abbrev pub boxes : Expr → Bool
boxes (typed ty t) = boxes_in t

abbrev pub sets_error_in : Term → Bool
sets_error_in (err_raise e) = true
sets_error_in err_clear = true
sets_error_in _ = false

-- whether a node is Err.Raise or Err.Clear
abbrev pub sets_error : Expr → Bool
sets_error (typed ty t) = sets_error_in t

-- ---- what an address is a part of

abbrev mutual
  pub root : Expr → Root
  root (typed ty t) = root_in t

  pub root_in : Term → Root
  root_in (variable v qualified) = Variable v
  root_in (field e k) = cond (is_object_type (type_at e)) Object (root e)
  root_in (element e indexes) = root e
  root_in me = Object
  root_in (with_object r) = r
  root_in _ = Temporary

abbrev pub root_variable : Root → Option ℕ
root_variable (Variable v) = Some v.0
root_variable _ = None

abbrev pub passed_root : Argument → Option ℕ
passed_root (by_value e) = None
passed_root (by_reference e) = root_variable (root e)
