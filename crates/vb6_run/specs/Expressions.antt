-- What expressions do: the parts of addresses, values, arguments and calls. Operands and arguments go from the left.
use Rattle.std.specs.Prelude.{ℕ, ℤ, Bool, List, Option, Some, None, true, false, cond, not, suc, pos, negsuc, nat_eq, nat_lt, option_map, option_and_then, [], ◌∷◌, ◌&&◌, ◌||◌}
use Rattle.vb_tree.specs.BoundTree.{Ty, long, str, user, class}
use Rattle.vb_tree.specs.declared.bound.LibCall.{LibCall}
use Rattle.vb_tree.specs.declared.bound.LibCall.TheVariants as lib
use Rattle.vb_tree.specs.declared.bound.Op6.{Op6}
use Rattle.vb_tree.specs.declared.bound.Op6.TheVariants as row
use Rattle.vb_tree.specs.declared.expression.BinOp.TheVariants as b
use Rattle.vb_tree.specs.declared.expression.UnOp.TheVariants as u
use Rattle.vb_tree.specs.declared.value.Value6.{Value6}
use Rattle.vb_tree.specs.declared.value.Value6.TheVariants as v
use Rattle.bound_tree.specs.Targets.{Aims, with_round}
use Rattle.bound_tree.specs.Tree.{Declarations, Expr, typed, Term, variable, field, element, call, library, unary, binary, convert, new_object, me, with_object, err_number, err_raise, err_clear, is_same, loose, Object, no_object, of_object, Exprs, no_exprs, next_expr, Argument, Passed, no_passed, next_passed}
use Rattle.bound_tree.specs.Tree as tree
use Rattle.bound_facts.specs.Folded.{folded, converted_value, binary_row, unary_row}
use Rattle.bound_facts.specs.Members.{field_of}
use Rattle.bound_facts.specs.Node.{type_at, declared_at, declared_in, auto_class, variable_number, class_in, is_object_type, is_array_type}
use Rattle.vb6_meaning.specs.Answers.{Answer}
use Rattle.vb6_meaning.specs.Answers as answer
use Rattle.vb6_meaning.specs.Values.{coerce, operate, same_object}
use Rattle.vb6_meaning.specs.Library as values
use Rattle.up_base.specs.Windows1252.{is_own_number, assigned}
use Rattle.std.specs.List.{list_any, list_all}
use Rattle.run_base.specs.Positions.{whole}
use Rattle.run_base.specs.Positions as position
use Rattle.run_base.specs.Frames.{by_value, by_address, Kept, keeps_nothing, keeps_limit, keeps_value, keeps_address}
use Rattle.run_base.specs.Machines.{enters}
use Rattle.vb6_run.specs.Objects.{on_object, created, made_at}
use Rattle.run_base.specs.Outcomes.{asked, boxed, gives, raises, outside, then, answered, some_of, first_input, rest_inputs}
use Rattle.vb6_run.specs.Shapes.{Shape, shape_by, user_shapes, variable_shape}
use Rattle.vb6_run.specs.Values.{Value, scalar, fields, elements, is_of_shape}
use Rattle.vb6_run.specs.Store.{Address, root, constant, Does, SourceGiven, SourceFrame, SourceCalls, set_err, provided, read, field_address}
use Rattle.vb6_run.specs.Runnables.{Runnable, declarations_of, variable_address}
use Rattle.vb6_run.specs.Arrays.{with_array, Lows, has_lows, have_long_lows, takes_indexes, element_address, Side, lower, upper, array_bound}

-- what the expressions of a line see: the program, what its calls do, the procedure, the frame, and where control goes from the line
pub record Context : Type 0 where
  pub runnable : Runnable
  pub oracle : SourceCalls
  pub procedure : ℕ
  pub frame : SourceFrame
  pub aims : Aims

abbrev pub declared : Context → Declarations
declared C = declarations_of C.runnable

-- What is known of an address before its last check: all of it; an array and the indexes of an element; or an object and one of its
-- fields. A value is an address too. A Sub and a statement of the library give none.
pub data Parts : Type 0 where
  at_address : Address → Parts
  at_element : (array : Address) → (indexes : List ℤ) → Parts
  at_field : (object : Value) → (class : ℕ) → Shape → (variable : ℕ) → Parts
  no_value : Parts

-- The address, with the last check of an index or for Nothing. What lies outside: the value of what gives none.
abbrev pub finished : Parts → Does Address
finished (at_address a) w = gives [] a w
finished (at_element a zs) w = element_address a zs w
finished (at_field x c s k) w = on_object c x (λ o w. gives [] (root s (whole (position.field o (k ∷ [])))) w) w
finished no_value w = outside []

-- ---- values

abbrev pub type_shape : Declarations → Ty → Shape
type_shape D ty = shape_by (user_shapes D) [] ty

-- The value at parts of an expression. What lies outside: a value of another type than that of the expression.
abbrev pub value_in : Context → Expr → Parts → Does Value
value_in C e p w =
    then (then (finished p w) read) (λ x w. provided (is_of_shape (type_shape (declared C) (type_at e)) x) (λ w. gives [] x w) w)

-- What lies outside: a user type or an array where a scalar is wanted.
abbrev pub scalar_of : Value → Does Value6
scalar_of (scalar ty x) w = gives [] x w
scalar_of (fields t xs) w = outside []
scalar_of (elements e dims xs) w = outside []

abbrev pub scalar_in : Context → Expr → Parts → Does Value6
scalar_in C e p w = then (value_in C e p w) scalar_of

-- What lies outside: another value where a Long is wanted.
abbrev pub whole_number : Value6 → Does ℤ
whole_number (v.Long z) w = gives [] z w
whole_number x w = outside []

-- an index or a bound, which is a Long
abbrev pub long_in : Context → Expr → Parts → Does ℤ
long_in C e p w = then (scalar_in C e p w) whole_number

abbrev pub value_parts : Value → Does Parts
value_parts x w = gives [] (at_address (constant x)) w

abbrev pub answer_as : Ty → Answer Value6 → Does Parts
answer_as ty a w = then (answered a w) (λ x w. value_parts (scalar ty x) w)

-- ---- operators

-- Imp on Variants makes the Not of its left operand before it evaluates the right one, then Or
abbrev pub left_operand : Op6 → Value6 → Answer Value6
left_operand (row.Variant b.Imp) x = operate (row.VariantUn u.Not) x x
left_operand op x = answer.gives x

abbrev pub then_row : Op6 → Op6
then_row (row.Variant b.Imp) = row.Variant b.Or
then_row op = op

-- ---- variables and fields

-- What lies outside: a variable that the frame doesn't have, and one of a class where there is no object.
abbrev pub variable_parts : Context → (variable : ℕ) → Does Parts
variable_parts C k w = some_of (variable_address (declared C) C.frame k) (λ a w. gives [] (at_address a) w) w

-- A field of a user type, or of an object. What lies outside: a field of what has no type, or none that is known before the run.
abbrev pub field_parts : Context → Expr → (field : ℕ) → Ty → Parts → Does Parts
field_parts C e k (user t) p w = then (finished p w) (λ a w. some_of (field_address k a w.held) (λ b w. gives [] (at_address b) w) w)
field_parts C e k (class c) p w =
    then (value_in C e p w) (λ x w.
    some_of (field_of (declared C) (class c) k) (λ y w. gives [] (at_field x c (variable_shape (declared C) y) y) w) w)
field_parts C e k ty p w = outside []

abbrev pub made_for : Context → (class : Option ℕ) → Parts → Does Parts
made_for C None p w = gives [] p w
made_for C (Some c) p w =
    then (finished p w) (λ a w. then (made_at (declared C) C.oracle C.frame.env c a w) (λ u w. gives [] (at_address a) w))

-- the use of a variable or a field makes its object where it is As New
abbrev pub as_new : Context → Term → Parts → Does Parts
as_new C t p w = made_for C (auto_class (variable_number (declared C).vars (declared_in (declared C) t))) p w

-- What lies outside: a With whose head hasn't kept anything.
abbrev pub kept_parts : Kept Value Address → Does Parts
kept_parts keeps_nothing w = outside []
kept_parts (keeps_limit a limit step) w = outside []
kept_parts (keeps_value x) w = gives [] (at_address (constant x)) w
kept_parts (keeps_address a) w = gives [] (at_address a) w

-- What the With round the line keeps. What lies outside: a line without one.
abbrev pub with_parts : Context → Does Parts
with_parts C w = some_of (with_round C.aims) (λ h w. kept_parts (C.frame.kept h) w) w

-- ---- elements

abbrev pub lows_at : Context → Expr → Lows
lows_at C e = option_map (λ k. C.runnable.low k) (declared_at (declared C) e)

-- What lies outside: an element of an array with other lower bounds than its ties give it or with one that is no Long, or with another
-- number of indexes.
abbrev pub element_parts : Context → Expr → Address → (indexes : List ℤ) → Does Parts
element_parts C e a zs w =
    with_array a (λ s dims xs w. provided (has_lows (lows_at C e) dims && (have_long_lows dims && takes_indexes dims zs)) (λ w. gives [] (at_element a zs) w) w) w

-- ---- calls

-- the object that a call is for: the caller's own, or one of a class
pub data Receiver : Type 0 where
  caller : Receiver
  receiver : (class : Option ℕ) → Value → Receiver

-- A call, whose object is checked for Nothing after the arguments and before the entry takes its step. What lies outside: an object of a
-- type that is no class, whose members aren't known before the run.
abbrev pub entered : Context → (procedure : ℕ) → Receiver → List SourceGiven → Does (Option Value)
entered C p caller args w = C.oracle (enters p C.frame.me C.frame.env args) w
entered C p (receiver None x) args w = outside []
entered C p (receiver (Some c) x) args w = on_object c x (λ o w. C.oracle (enters p (Some o) C.frame.env args) w) w

abbrev pub result_parts : Option Value → Parts
result_parts None = no_value
result_parts (Some x) = at_address (constant x)

-- ---- arguments

-- an object's field through a member access, or a field of a user type in it; an element of an array in it is none
abbrev mutual
  pub is_object_field : Expr → Bool
  is_object_field (typed ty t) = is_object_field_in t

  pub is_object_field_in : Term → Bool
  is_object_field_in (field e k) = is_object_type (type_at e) || is_object_field e
  is_object_field_in _ = false

abbrev pub is_conversion : Expr → Bool
is_conversion (typed ty (convert to e)) = true
is_conversion (typed ty t) = false

-- what a reference parameter is bound to; all else passes a temporary. An array goes by reference always.
abbrev pub goes_by_address : Expr → Bool
goes_by_address e = is_array_type (type_at e) || not (is_conversion e || is_object_field e)

abbrev pub given_address : (quiet : Bool) → Address → Does SourceGiven
given_address false a w = gives [] (by_address a) w
given_address true a w = then (read a w) (λ x w. gives [] (by_address a) w)

-- An argument by reference; the index of an element is checked here. What lies outside: a quiet parameter that is given no value.
abbrev pub given_parts : Context → (quiet : Bool) → Expr → (by_address : Bool) → Parts → Does SourceGiven
given_parts C quiet e true p w = then (finished p w) (given_address quiet)
given_parts C quiet e false p w = then (value_in C e p w) (λ x w. gives [] (by_value x) w)

-- ---- the library

abbrev pub library_value : Context → Ty → LibCall → (first : Expr) → (rest : Does (List Value6)) → Parts → Does Parts
library_value C ty f e rest p w =
    then (scalar_in C e p w) (λ x w. then (rest w) (λ xs w. answer_as ty (values.call f (x ∷ xs)) w))

abbrev pub number_before : Value6 → Option ℕ
number_before (v.Long (pos (suc k))) = Some k
number_before x = None

-- the dimension that a constant names, counted from 0; without one it is the first
abbrev pub dimension_in : Exprs → Option ℕ
dimension_in no_exprs = Some 0
dimension_in (next_expr d rest) = option_and_then number_before (converted_value long (folded d))

-- What lies outside: a dimension that is no constant.
abbrev pub bound_parts : Context → Side → (array : Expr) → (rest : Exprs) → Parts → Does Parts
bound_parts C side e rest p w =
    then (finished p w) (λ a w. some_of (dimension_in rest) (λ k w. then (array_bound (lows_at C e) side k a w) value_parts) w)

-- What lies outside: another value where a text is wanted.
abbrev pub boxed_text : Value6 → Does Parts
boxed_text (v.Str s) w = gives (boxed s ∷ []) no_value w
boxed_text x w = outside []

abbrev pub has_byte : ℕ → Bool
has_byte c = is_own_number c || list_any (λ (a : ℕ × ℕ). nat_eq a.1 c) assigned

-- The text of the next input. What lies outside: one with a unit that Windows-1252 lacks.
abbrev pub asked_text : Value6 → Does Parts
asked_text (v.Str s) w =
    cond (list_all has_byte (first_input w.inputs))
    (gives (asked s ∷ []) (at_address (constant (scalar str (v.Str (first_input w.inputs))))) (record w { inputs = rest_inputs w.inputs }))
    (outside (asked s ∷ []))
asked_text x w = outside []

-- a call of the library whose first argument has these parts
abbrev pub library_parts : Context → Ty → LibCall → (first : Expr) → (later : Exprs) → (rest : Does (List Value6)) → Parts → Does Parts
library_parts C ty lib.Len e later rest p w = library_value C ty lib.Len e rest p w
library_parts C ty lib.Left e later rest p w = library_value C ty lib.Left e rest p w
library_parts C ty lib.Right e later rest p w = library_value C ty lib.Right e rest p w
library_parts C ty lib.Mid e later rest p w = library_value C ty lib.Mid e rest p w
library_parts C ty lib.Trim e later rest p w = library_value C ty lib.Trim e rest p w
library_parts C ty lib.LTrim e later rest p w = library_value C ty lib.LTrim e rest p w
library_parts C ty lib.RTrim e later rest p w = library_value C ty lib.RTrim e rest p w
library_parts C ty lib.UCase e later rest p w = library_value C ty lib.UCase e rest p w
library_parts C ty lib.LCase e later rest p w = library_value C ty lib.LCase e rest p w
library_parts C ty lib.Space e later rest p w = library_value C ty lib.Space e rest p w
library_parts C ty lib.Chr e later rest p w = library_value C ty lib.Chr e rest p w
library_parts C ty lib.Asc e later rest p w = library_value C ty lib.Asc e rest p w
library_parts C ty lib.InStr e later rest p w = library_value C ty lib.InStr e rest p w
library_parts C ty lib.Abs e later rest p w = library_value C ty lib.Abs e rest p w
library_parts C ty lib.CBool e later rest p w = library_value C ty lib.CBool e rest p w
library_parts C ty lib.CByte e later rest p w = library_value C ty lib.CByte e rest p w
library_parts C ty lib.CInt e later rest p w = library_value C ty lib.CInt e rest p w
library_parts C ty lib.CLng e later rest p w = library_value C ty lib.CLng e rest p w
library_parts C ty lib.CCur e later rest p w = library_value C ty lib.CCur e rest p w
library_parts C ty lib.CStr e later rest p w = library_value C ty lib.CStr e rest p w
library_parts C ty lib.IsEmpty e later rest p w = library_value C ty lib.IsEmpty e rest p w
library_parts C ty lib.UBound e later rest p w = bound_parts C upper e later p w
library_parts C ty lib.LBound e later rest p w = bound_parts C lower e later p w
library_parts C ty lib.MsgBox e later rest p w = then (scalar_in C e p w) boxed_text
library_parts C ty lib.InputBox e later rest p w = then (scalar_in C e p w) asked_text

-- ---- Err

-- What lies outside: a number outside 1 to 65535.
abbrev pub raise_of : ℤ → Does Parts
raise_of (pos n) w = cond (nat_lt 0 n && nat_lt n 65536) (raises [] n w) (outside [])
raise_of (negsuc n) w = outside []

-- What lies outside: Me where there is no object.
abbrev pub me_value : Ty → Option ℕ → Does Parts
me_value ty None w = outside []
me_value ty (Some o) w = value_parts (scalar ty (v.Object o)) w

-- ---- expressions

abbrev mutual
  pub parts_of : Context → Expr → Does Parts
  parts_of C (typed ty t) w = then (term_parts C ty t w) (as_new C t)

  -- The same, with no object made for an As New variable itself. What lies outside: an expression without a type, and an Err number above
  -- 65535, which no error has.
  pub term_parts : Context → Ty → Term → Does Parts
  term_parts C ty (tree.constant x origin) w = value_parts (scalar ty x) w
  term_parts C ty (variable k qualified) w = variable_parts C k.0 w
  term_parts C ty (field e k) w = then (parts_of C e w) (field_parts C e k (type_at e))
  term_parts C ty (element e indexes) w =
      then (then (parts_of C e w) finished) (λ a w. then (indexes_of C indexes w) (λ zs w. element_parts C e a zs w))
  term_parts C ty (call p qualified of args) w =
      then (receiver_of C of w) (λ r w. then (args_of C p.0 0 args w) (λ gs w. then (entered C p.0 r gs w) (λ x w. gives [] (result_parts x) w)))
  term_parts C ty (library f args) w = library_call C ty f args w
  term_parts C ty (unary op e) w = then (then (parts_of C e w) (scalar_in C e)) (λ x w. answer_as ty (operate (unary_row (type_at e) op) x x) w)
  term_parts C ty (binary op d e) w =
      then (then (parts_of C d w) (scalar_in C d)) (λ x w. then (answered (left_operand (binary_row (type_at d) (type_at e) op) x) w) (λ x w.
      then (then (parts_of C e w) (scalar_in C e)) (λ y w. answer_as ty (operate (then_row (binary_row (type_at d) (type_at e) op)) x y) w)))
  term_parts C ty (convert to e) w = then (then (parts_of C e w) (scalar_in C e)) (λ x w. answer_as to (coerce x to) w)
  term_parts C ty (new_object c) w = then (created (declared C) C.oracle C.frame.env c.0 w) value_parts
  term_parts C ty me w = me_value ty C.frame.me w
  term_parts C ty (with_object of) w = with_parts C w
  term_parts C ty err_number w = provided (nat_lt w.err 65536) (λ w. value_parts (scalar ty (v.Long (pos w.err))) w) w
  term_parts C ty (err_raise e) w = then (then (parts_of C e w) (long_in C e)) raise_of
  term_parts C ty err_clear w = gives [] no_value (set_err 0 w)
  term_parts C ty (is_same d e) w =
      then (then (parts_of C d w) (scalar_in C d)) (λ x w. then (then (parts_of C e w) (scalar_in C e)) (λ y w. answer_as ty (same_object x y) w))
  term_parts C ty (loose e rules) w = outside []

  pub receiver_of : Context → Object → Does Receiver
  receiver_of C no_object w = gives [] caller w
  receiver_of C (of_object e) w = then (then (parts_of C e w) (value_in C e)) (λ x w. gives [] (receiver (class_in (type_at e)) x) w)

  pub indexes_of : Context → Exprs → Does (List ℤ)
  indexes_of C no_exprs w = gives [] [] w
  indexes_of C (next_expr e rest) w =
      then (then (parts_of C e w) (long_in C e)) (λ z w. then (indexes_of C rest w) (λ zs w. gives [] (z ∷ zs) w))

  -- the arguments of a call from the one at a place on
  pub args_of : Context → (procedure place : ℕ) → Passed → Does (List SourceGiven)
  args_of C p i no_passed w = gives [] [] w
  args_of C p i (next_passed a rest) w =
      then (argument_of C (C.runnable.quiet p i) a w) (λ g w. then (args_of C p (suc i) rest w) (λ gs w. gives [] (g ∷ gs) w))

  pub argument_of : Context → (quiet : Bool) → Argument → Does SourceGiven
  argument_of C quiet (tree.by_value e) w = then (then (parts_of C e w) (value_in C e)) (λ x w. gives [] (by_value x) w)
  argument_of C quiet (tree.by_reference e) w = then (parts_of C e w) (given_parts C quiet e (goes_by_address e))

  -- What lies outside: a call of the library without arguments.
  pub library_call : Context → Ty → LibCall → Exprs → Does Parts
  library_call C ty f no_exprs w = outside []
  library_call C ty f (next_expr e rest) w = then (parts_of C e w) (library_parts C ty f e rest (λ w. values_of C rest w))

  pub values_of : Context → Exprs → Does (List Value6)
  values_of C no_exprs w = gives [] [] w
  values_of C (next_expr e rest) w =
      then (then (parts_of C e w) (scalar_in C e)) (λ x w. then (values_of C rest w) (λ xs w. gives [] (x ∷ xs) w))

abbrev pub value_of : Context → Expr → Does Value
value_of C e w = then (parts_of C e w) (value_in C e)

abbrev pub scalar_value : Context → Expr → Does Value6
scalar_value C e w = then (parts_of C e w) (scalar_in C e)

abbrev pub address_of : Context → Expr → Does Address
address_of C e w = then (parts_of C e w) finished
