-- Which bound expressions and lines are well typed: the use of a variable has the variable's type, a conversion gives the type to which it
-- goes, a call has the type of its Function and gives each parameter an argument of its type, what is assigned has the type that its
-- target takes, a condition is a Boolean, and a bound of a ReDim a Long. That operators and constants have the types of their rows is told by `is_formed`.
use Rattle.std.specs.Prelude.{ℕ, Bool, true, false, not, ◌&&◌, ◌||◌, Option, Some, None, is_some, List, [], ◌∷◌, slice_get}
use Rattle.std.specs.List.{list_all}
use Rattle.vb_tree.specs.BoundTree as types
use Rattle.vb_tree.specs.BoundTree.{Ty}
use Rattle.vb_tree.specs.declared.declared.VarId.{VarId}
use Rattle.vb_tree.specs.Tree.{Form}
use Rattle.vb_tree.specs.Tree as source
use Rattle.bound_tree.specs.Tree.{Variable, Procedure, Declarations, Program, Expr, typed, Term, constant, variable, field, element, call, library, unary, binary, convert, new_object, me, with_object, err_number, err_raise, err_clear, is_same, loose, Exprs, no_exprs, next_expr, Object, no_object, of_object, Passed, no_passed, next_passed, Argument}
use Rattle.bound_tree.specs.Tree as tree
use Rattle.bound_facts.specs.Locks.{is_same_type}
use Rattle.bound_facts.specs.Node.{type_at}
use Rattle.bound_facts.specs.Parts.{Extent, Resize, resizes}
use Rattle.run_matches.specs.CoveredVariables.{covers_type}
use Rattle.run_matches.specs.Covered.{is_plain_kind}

-- ---- expressions

abbrev pub has_type : Ty → Option Variable → Bool
has_type ty None = false
has_type ty (Some x) = is_same_type ty x.ty

abbrev pub is_unknown : Ty → Bool
is_unknown types.unknown = true
is_unknown _ = false

-- Where both have one, the types of a parameter and its argument are the same; of arrays the element types are compared.
abbrev pub fits_type : Ty → Ty → Bool
fits_type s t = is_same_type s t || (is_unknown s || is_unknown t)

abbrev pub given_type : Argument → Ty
given_type (tree.by_value e) = type_at e
given_type (tree.by_reference e) = type_at e

abbrev pub fits_parameter : Argument → Option Variable → Bool
fits_parameter a None = false
fits_parameter a (Some y) = fits_type y.ty (given_type a)

-- one argument for each parameter, of its type
abbrev pub fits_parameters : Declarations → List VarId → Passed → Bool
fits_parameters D [] no_passed = true
fits_parameters D [] (next_passed a rest) = false
fits_parameters D (v ∷ vs) no_passed = false
fits_parameters D (v ∷ vs) (next_passed a rest) = fits_parameter a (slice_get D.vars v.0) && fits_parameters D vs rest

-- a call of a Sub or a Function; the part of a property that takes a value is given it by the assignment
abbrev pub fits_call : Declarations → Ty → Passed → Option Procedure → Bool
fits_call D ty args None = false
fits_call D ty args (Some x) = not (is_plain_kind x.kind) || (is_same_type ty x.result && fits_parameters D x.params args)

abbrev mutual
  pub is_typed : Declarations → Expr → Bool
  is_typed D (typed ty t) = is_typed_term D ty t

  pub is_typed_term : Declarations → Ty → Term → Bool
  is_typed_term D ty (constant x origin) = true
  is_typed_term D ty (variable v qualified) = has_type ty (slice_get D.vars v.0)
  is_typed_term D ty (field e k) = is_typed D e
  is_typed_term D ty (element e indexes) = is_typed D e && are_typed D indexes
  is_typed_term D ty (call p qualified of args) = (is_typed_object D of && are_typed_passed D args) && fits_call D ty args (slice_get D.procs p.0)
  is_typed_term D ty (library f args) = are_typed D args
  is_typed_term D ty (unary op e) = is_typed D e
  is_typed_term D ty (binary op d e) = is_typed D d && is_typed D e
  is_typed_term D ty (convert to e) = is_same_type ty to && is_typed D e
  is_typed_term D ty (new_object c) = true
  is_typed_term D ty me = true
  is_typed_term D ty (with_object root) = true
  is_typed_term D ty err_number = true
  is_typed_term D ty (err_raise e) = is_typed D e
  is_typed_term D ty err_clear = true
  is_typed_term D ty (is_same d e) = is_typed D d && is_typed D e
  is_typed_term D ty (loose e rules) = true

  pub is_typed_object : Declarations → Object → Bool
  is_typed_object D no_object = true
  is_typed_object D (of_object e) = is_typed D e

  pub are_typed : Declarations → Exprs → Bool
  are_typed D no_exprs = true
  are_typed D (next_expr e rest) = is_typed D e && are_typed D rest

  pub are_typed_passed : Declarations → Passed → Bool
  are_typed_passed D no_passed = true
  are_typed_passed D (next_passed a rest) = is_typed_argument D a && are_typed_passed D rest

  pub is_typed_argument : Declarations → Argument → Bool
  is_typed_argument D (tree.by_value e) = is_typed D e
  is_typed_argument D (tree.by_reference e) = is_typed D e

-- ---- lines

-- a fixed string takes a String
abbrev pub taken : Ty → Ty
taken (types.fixed units) = types.str
taken t = t

-- what has no type takes any value, and a value without a type goes anywhere: such a line breaks a rule
abbrev pub takes : (target value : Ty) → Bool
takes t s = is_same_type (taken t) s || (is_unknown t || is_unknown s)

abbrev pub is_taken : List Expr → Bool
is_taken (to ∷ e ∷ []) = takes (type_at to) (type_at e)
is_taken es = true

abbrev pub assigns_typed : Form → List Expr → Bool
assigns_typed (source.assign target value) es = is_taken es
assigns_typed _ es = true

-- a condition is a Boolean
abbrev pub is_test : List Expr → Bool
is_test [] = true
is_test (e ∷ es) = fits_type types.boolean (type_at e)

abbrev pub tests_typed : Form → List Expr → Bool
tests_typed (source.if_head e) es = is_test es
tests_typed (source.line_if e) es = is_test es
tests_typed (source.else_if e) es = is_test es
tests_typed (source.do_while e) es = is_test es
tests_typed (source.do_until e) es = is_test es
tests_typed (source.loop_while e) es = is_test es
tests_typed (source.loop_until e) es = is_test es
tests_typed (source.while_head e) es = is_test es
tests_typed _ es = true

-- a line that names arrays, where a procedure stands as a call without arguments
abbrev pub names_arrays : Form → Bool
names_arrays (source.redim preserve items) = true
names_arrays (source.erase target) = true
names_arrays (source.for_each name suffix e) = true
names_arrays _ = false

abbrev pub exprs_typed : Declarations → Form → List Expr → Bool
exprs_typed D f es = names_arrays f || list_all (is_typed D) es

-- a bound of a ReDim is a Long
abbrev pub is_typed_bound : Declarations → Expr → Bool
is_typed_bound D e = fits_type types.long (type_at e) && is_typed D e

abbrev pub is_typed_low : Declarations → Option Expr → Bool
is_typed_low D None = true
is_typed_low D (Some e) = is_typed_bound D e

abbrev pub is_typed_extent : Declarations → Extent → Bool
is_typed_extent D x = is_typed_low D x.0 && is_typed_bound D x.1

abbrev pub is_typed_resize : Declarations → Resize → Bool
is_typed_resize D r = list_all (is_typed_extent D) r.extents

abbrev pub bounds_typed : Declarations → Form → List Expr → Bool
bounds_typed D (source.redim preserve items) es = list_all (is_typed_resize D) (resizes items es)
bounds_typed D _ es = true

abbrev pub is_typed_line : Declarations → tree.Line → Bool
is_typed_line D l =
    assigns_typed l.source.form l.bindings.exprs
    && (tests_typed l.source.form l.bindings.exprs
    && (bounds_typed D l.source.form l.bindings.exprs && exprs_typed D l.source.form l.bindings.exprs))

-- ---- procedures

abbrev pub are_typed_lines : Declarations → Option (List tree.Line) → Bool
are_typed_lines D None = true
are_typed_lines D (Some lines) = list_all (is_typed_line D) lines

-- the lines of a procedure, if there is one of this number
abbrev pub is_typed_procedure : Program → (procedure : ℕ) → Bool
is_typed_procedure P p = are_typed_lines P.declarations (slice_get P.bodies p)

-- a Sub has no type of a value
abbrev pub gives_what_it_has : Option Procedure → Bool
gives_what_it_has None = true
gives_what_it_has (Some x) = is_some x.answer || not (covers_type x.result)
