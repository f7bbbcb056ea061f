-- Which expressions are covered, and what of them may be stored.
use Rattle.std.specs.Prelude.{◌≡◌, ◌⊎◌, ℕ, Bool, true, false, cond, not, ◌&&◌, ◌||◌, Option, Some, None, List, [], ◌∷◌, ◌++◌, length, suc, slice_get, position, nat_eq}
use Rattle.std.specs.List.{list_all, list_any, flat_map}
use Rattle.vb_tree.specs.BoundTree as types
use Rattle.vb_tree.specs.BoundTree.{Ty}
use Rattle.vb_tree.specs.declared.bound.LibCall.{LibCall}
use Rattle.vb_tree.specs.declared.bound.LibCall.TheVariants as lib
use Rattle.vb_tree.specs.declared.declared.ProcKind.{ProcKind}
use Rattle.vb_tree.specs.declared.declared.ProcKind.TheVariants as kind
use Rattle.vb_tree.specs.declared.declared.VarId.{VarId}
use Rattle.vb_tree.specs.declared.expression.BinOp.{BinOp}
use Rattle.vb_tree.specs.declared.expression.BinOp.TheVariants as b
use Rattle.vb_tree.specs.declared.value.Value6.{Value6}
use Rattle.vb_tree.specs.declared.value.Value6.TheVariants as value
use Rattle.bound_tree.specs.declared.body.Mention.{Mention}
use Rattle.bound_tree.specs.declared.body.Mention.TheVariants as mention
use Rattle.bound_tree.specs.Tree.{Variable, Procedure, Program, Expr, typed, Term, constant, variable, field, element, call, library, unary, binary, convert, new_object, me, with_object, err_number, err_raise, err_clear, is_same, loose, Exprs, no_exprs, next_expr, Object, no_object, of_object, Argument, by_value, by_reference, Passed, no_passed, next_passed, Declarations}
use Rattle.bound_tree.specs.Tree as tree
use Rattle.bound_facts.specs.CanRaise.{raises_by}
use Rattle.bound_facts.specs.Calls.{count_variables}
use Rattle.bound_facts.specs.Effects.{passed_roots, passes}
use Rattle.bound_facts.specs.Items.{project_items}
use Rattle.bound_facts.specs.Leading.{within}
use Rattle.bound_facts.specs.Locks.{is_same_type}
use Rattle.bound_facts.specs.Node.{type_at, args_at, called}
use Rattle.bound_facts.specs.Nodes.{nodes, nodes_of_all}
use Rattle.vb6_meaning.specs.Answers.{Answer}
use Rattle.vb6_meaning.specs.Answers as answer
use Rattle.vb6_meaning.specs.Values.{coerce}
use Rattle.bound_facts.specs.Parts.{line_uses}
use Rattle.written_trees.specs.Arguments.{is_property}
use Rattle.written_trees.specs.Heads.{index_params, is_function}
use Rattle.written_trees.specs.Puts.{last_of}
use Rattle.vb6_run.specs.Values.{is_typed}
use Rattle.bound_facts.specs.Members.{class_files}
use Rattle.bound_facts.specs.SelfMade.{module_of}
use Rattle.run_matches.specs.Sites.{Site, site_of}
use Rattle.run_matches.specs.UserTypes.{is_class_type, is_user, is_user_of}
use Rattle.run_matches.specs.Inward.{grown, is_apart, is_inward_in}
use Rattle.run_matches.specs.CoveredVariables.{takes_value_at, covers_use, covers_array_use, covers_auto_use, covers_group_use, covers_group_type, covers_made, is_named_so, field_type_in, member_type_in, is_loud, covers_type}

-- ---- operators and the library

-- all operators on scalars; no comparison of objects
abbrev pub covers_operator : BinOp → Bool
covers_operator b.Pow = true
covers_operator b.Mul = true
covers_operator b.Div = true
covers_operator b.IntDiv = true
covers_operator b.Mod = true
covers_operator b.Add = true
covers_operator b.Sub = true
covers_operator b.Concat = true
covers_operator b.Equal = true
covers_operator b.NotEqual = true
covers_operator b.Less = true
covers_operator b.Greater = true
covers_operator b.LessEqual = true
covers_operator b.GreaterEqual = true
covers_operator b.Like = true
covers_operator b.Is = false
covers_operator b.And = true
covers_operator b.Or = true
covers_operator b.Xor = true
covers_operator b.Eqv = true
covers_operator b.Imp = true

-- calls on texts and numbers, conversions, MsgBox and InputBox
abbrev pub covers_library : LibCall → Bool
covers_library lib.Len = true
covers_library lib.Left = true
covers_library lib.Right = true
covers_library lib.Mid = true
covers_library lib.Trim = true
covers_library lib.LTrim = true
covers_library lib.RTrim = true
covers_library lib.UCase = true
covers_library lib.LCase = true
covers_library lib.Space = true
covers_library lib.Chr = true
covers_library lib.Asc = true
covers_library lib.InStr = true
covers_library lib.Abs = true
covers_library lib.CBool = true
covers_library lib.CByte = true
covers_library lib.CInt = true
covers_library lib.CLng = true
covers_library lib.CCur = true
covers_library lib.CStr = true
covers_library lib.IsEmpty = false
covers_library lib.UBound = false
covers_library lib.LBound = false
covers_library lib.MsgBox = true
covers_library lib.InputBox = true

-- ---- expressions

-- which variables are covered: as scalars, as arrays of elements of a type, and as of a user type or a class, with the types of the fields
-- that user types may be asked for; and which are no quiet parameters
pub record Uses : Type 0 where
  pub scalar : VarId → Bool
  pub array : VarId → (element : Ty) → Bool
  pub group : VarId → Ty → Bool
  -- As New variables of a class
  pub auto : VarId → Ty → Bool
  pub field_type : (user_type field : ℕ) → Option Ty
  -- the types of the variables that objects of a class may be asked for
  pub member_type : (class field : ℕ) → Option Ty
  -- the class of the procedure, and classes of which objects may be made
  pub me : Option ℕ
  pub made : (class : ℕ) → Bool
  -- how variables may be named
  pub named : VarId → (qualified : Bool) → Bool
  -- user types and classes that a With may keep and a call may give, and classes of which Nothing is
  pub given : Ty → Bool
  -- variables that are declared with a type
  pub is_of : VarId → Ty → Bool
  -- procedures that are no Let and no Set of a property, and those that take a value of a type as a Let or a Set, behind so many indexes
  pub gives : (procedure : ℕ) → Bool
  pub takes : (procedure count : ℕ) → Ty → Bool
  -- Functions and Gets whose result is of a type
  pub results : (procedure : ℕ) → Ty → Bool
  -- procedures that are seen to be inward
  pub inward : (procedure : ℕ) → Bool
  pub exact : VarId → Bool
  -- variables that are bound to no element, since a line that stores one may rely on them
  pub relied : VarId → Bool

abbrev pub IsUsed : Uses → VarId → Type 0
IsUsed uses v =
    (uses.scalar v ≡ true)
    ⊎ (((element : Ty) × (uses.array v element ≡ true)) ⊎ (((ty : Ty) × (uses.group v ty ≡ true)) ⊎ ((ty : Ty) × (uses.auto v ty ≡ true))))

abbrev pub is_declared_as : Ty → Option Variable → Bool
is_declared_as ty None = false
is_declared_as ty (Some x) = is_same_type ty x.ty

abbrev pub is_typed_variable : Declarations → Ty → Option VarId → Bool
is_typed_variable D ty None = false
is_typed_variable D ty (Some v) = is_declared_as ty (slice_get D.vars v.0)

abbrev pub is_element_term : Term → Bool
is_element_term (element a indexes) = true
is_element_term t = false

abbrev pub stores_element : List Expr → Bool
stores_element [] = false
stores_element (typed ty t ∷ es) = is_element_term t

abbrev pub mentioned_variable : Mention → List ℕ
mentioned_variable (mention.Var u) = u.0 ∷ []
mentioned_variable m = []

abbrev pub is_property_called : Declarations → Option ℕ → Bool
is_property_called D None = false
is_property_called D (Some q) = is_property D q

-- variables that are given by reference to the parts of properties
abbrev pub index_roots : Declarations → Expr → List ℕ
index_roots D e = cond (is_property_called D (called e)) (passed_roots (args_at e)) []

abbrev pub relied_items : Declarations → (procedure : ℕ) → tree.Line → List ℕ
relied_items D i l = cond (stores_element l.bindings.exprs) (flat_map mentioned_variable l.bindings.mentions) [] ++ flat_map (index_roots D) (line_uses l)

-- those that lines mention that store an element, and those that are given to index parameters
abbrev pub relied : Program → List ℕ
relied P = project_items (relied_items P.declarations) P.bodies

-- A line that stores an element mentions the variable, or it is given to an index parameter, or so is a parameter to which it is passed on:
-- indexes or value may have to be what it holds, whatever is evaluated before. So it is bound to no element, which the source may not find.
abbrev pub is_relied_on : Program → (variable : ℕ) → Bool
is_relied_on P v =
    not (is_apart (within (count_variables P) (passes P)) (grown (count_variables P) (within (count_variables P) (passes P)) (relied P)) v)

abbrev pub class_in_file : Declarations → Option ℕ → Option ℕ
class_in_file D None = None
class_in_file D (Some file) = position (nat_eq file) (class_files D.project)

abbrev pub class_at : Declarations → Option Site → Option ℕ → Option ℕ
class_at D None file = None
class_at D (Some s) None = None
class_at D (Some s) (Some file) = cond (nat_eq s.source_module.file file && s.source_module.class) (class_in_file D (Some file)) None

-- the class in which a procedure stands
abbrev pub class_of : Declarations → (procedure : ℕ) → Option ℕ
class_of D p = class_at D (site_of D p) (module_of (slice_get D.procs p))

abbrev pub takes_value : ProcKind → Bool
takes_value kind.Sub = false
takes_value kind.Function = false
takes_value kind.Get = false
takes_value kind.Let = true
takes_value kind.Set = true

abbrev pub is_giving : Option Procedure → Bool
is_giving None = false
is_giving (Some q) = not (takes_value q.kind)

-- a Function or a Get whose result is of a type
abbrev pub has_result_type : Ty → Option Procedure → Bool
has_result_type ty None = false
has_result_type ty (Some q) = is_function q.kind && is_same_type ty q.result

-- a Let or a Set with so many index parameters, whose last parameter takes the value
abbrev pub is_taking : Declarations → (count : ℕ) → Ty → Option Procedure → Bool
is_taking D n ty None = false
is_taking D n ty (Some q) = takes_value q.kind && (nat_eq n (length (index_params q)) && is_typed_variable D ty (last_of q.params))

abbrev pub count_passed : Passed → ℕ
count_passed no_passed = 0
count_passed (next_passed a rest) = suc (count_passed rest)

-- those that a line of a procedure uses and mentions
abbrev pub uses_in : Program → (procedure : ℕ) → List Mention → Uses
uses_in P p mentions = record {
  scalar = covers_use P p mentions;
  array = covers_array_use P p mentions;
  group = covers_group_use P p mentions;
  auto = covers_auto_use P p mentions;
  field_type = field_type_in P.declarations mentions;
  member_type = member_type_in P.declarations mentions;
  me = class_of P.declarations p;
  made = covers_made P;
  named = is_named_so P.declarations;
  given = covers_group_type P.declarations;
  is_of = λ v ty. is_declared_as ty (slice_get P.declarations.vars v.0);
  gives = λ q. is_giving (slice_get P.declarations.procs q);
  takes = λ q n ty. is_taking P.declarations n ty (slice_get P.declarations.procs q) && takes_value_at P q n;
  results = λ q ty. has_result_type ty (slice_get P.declarations.procs q);
  inward = is_inward_in P;
  exact = λ v. is_loud P v.0 (slice_get P.declarations.vars v.0);
  relied = λ v. is_relied_on P v.0;
}

abbrev pub is_variable_in : Term → Bool
is_variable_in (variable v qualified) = true
is_variable_in t = false

abbrev pub is_variable : Expr → Bool
is_variable (typed ty t) = is_variable_in t

abbrev mutual
  pub is_changeable_in : Uses → Term → Bool
  is_changeable_in uses (variable v qualified) = uses.exact v
  is_changeable_in uses (field e k) = is_user (type_at e) && is_changeable uses e
  is_changeable_in uses (with_object root) = true
  is_changeable_in uses _ = false

  -- a variable that is changed, and so is no quiet parameter, or a field of one that is of a user type
  pub is_changeable : Uses → Expr → Bool
  is_changeable uses (typed ty t) = is_changeable_in uses t

abbrev pub is_passable_in : Uses → Term → Bool
is_passable_in uses (variable v qualified) = uses.exact v
is_passable_in uses (field e k) = is_user (type_at e)
is_passable_in uses t = true

-- nor is a variable that is given by reference; what goes for a variable of an object is a temporary
abbrev pub is_passable : Uses → Expr → Bool
is_passable uses (typed ty t) = is_passable_in uses t

abbrev pub covers_array_term : Uses → (element : Ty) → Term → Bool
covers_array_term uses e (variable v qualified) = uses.array v e && uses.named v qualified
covers_array_term uses e t = false

abbrev pub covers_array_as : Uses → Ty → Term → Bool
covers_array_as uses (types.array e rank) t = covers_array_term uses e t
covers_array_as uses ty t = false

-- an array variable
abbrev pub covers_array : Uses → Expr → Bool
covers_array uses (typed ty t) = covers_array_as uses ty t

-- ---- fields

-- a type that some field has
abbrev pub is_type : Ty → Option Ty → Bool
is_type ty None = false
is_type ty (Some f) = is_same_type ty f

-- a field of a user type has a type
abbrev pub has_field : Uses → (of : Ty) → (field : ℕ) → Ty → Bool
has_field uses (types.user t) k ty = is_type ty (uses.field_type t k)
has_field uses of k ty = false

-- a user type has a field that is of a user type
abbrev pub has_inner : Uses → (of : Ty) → (field : ℕ) → Ty → Bool
has_inner uses of k (types.user t) = has_field uses of k (types.user t)
has_inner uses of k ty = false

-- what a With keeps, of a user type
abbrev pub is_kept : Uses → Ty → Term → Bool
is_kept uses ty (with_object root) = is_user_of (λ t. uses.given (types.user t)) ty
is_kept uses ty t = false

-- ---- objects

abbrev pub is_nothing_term : Term → Bool
is_nothing_term (constant value.Nothing origin) = true
is_nothing_term t = false

abbrev pub is_nothing_in : Ty → Term → Bool
is_nothing_in types.nothing t = is_nothing_term t
is_nothing_in ty t = false

-- Nothing itself
abbrev pub is_nothing : Expr → Bool
is_nothing (typed ty t) = is_nothing_in ty t

-- ---- places

abbrev mutual
  -- a variable of a user type or of a class, or a field that is of a user type itself
  pub covers_place : Uses → Expr → Bool
  covers_place uses (typed ty t) = covers_place_term uses ty t

  pub covers_place_term : Uses → Ty → Term → Bool
  covers_place_term uses ty (variable v qualified) = uses.group v ty && uses.named v qualified
  covers_place_term uses ty (field e k) = has_inner uses (type_at e) k ty && covers_base uses e
  covers_place_term uses ty _ = false

  -- what a field is asked of: a place, or what a With keeps, which isn't written by itself
  pub covers_base : Uses → Expr → Bool
  covers_base uses (typed ty t) = is_kept uses ty t || covers_place_term uses ty t

abbrev pub is_scalar_type : Option Ty → Bool
is_scalar_type None = false
is_scalar_type (Some ty) = covers_type ty

-- a field of a user type is a scalar
abbrev pub has_scalar : Uses → (of : Ty) → (field : ℕ) → Bool
has_scalar uses (types.user t) k = is_scalar_type (uses.field_type t k)
has_scalar uses _ k = false

-- ---- variables of objects

abbrev pub is_passing : (Ty → Bool) → Option Ty → Bool
is_passing test None = false
is_passing test (Some ty) = test ty

-- objects of a class have a variable of a type that passes
abbrev pub has_member : Uses → (of : Ty) → (field : ℕ) → (Ty → Bool) → Bool
has_member uses (types.class c) k test = is_passing test (uses.member_type c k)
has_member uses of k test = false

abbrev pub is_number : ℕ → Option ℕ → Bool
is_number c None = false
is_number c (Some d) = nat_eq c d

abbrev pub is_class_of : Option ℕ → Ty → Bool
is_class_of of (types.class c) = is_number c of
is_class_of of ty = false

abbrev mutual
  -- an object that is kept: by a variable, which may be As New, by a variable of such an object, or by a With; Me; and what a Function or a
  -- property gives that is called without arguments, for no object or for one of these
  pub covers_object : Uses → Expr → Bool
  covers_object uses (typed ty t) = covers_object_term uses ty t

  pub covers_object_term : Uses → Ty → Term → Bool
  covers_object_term uses ty (variable v qualified) = is_class_type ty && ((uses.group v ty || uses.auto v ty) && uses.named v qualified)
  covers_object_term uses ty (field e k) = is_class_type ty && (has_member uses (type_at e) k (is_same_type ty) && covers_object uses e)
  covers_object_term uses ty me = is_class_of uses.me ty
  covers_object_term uses ty (with_object root) = is_class_type ty && uses.given ty
  covers_object_term uses ty (call p qualified of no_passed) =
      is_class_type ty && (uses.given ty && (uses.gives p.0 && (uses.results p.0 ty && covers_receiver uses of)))
  covers_object_term uses ty _ = false

  -- a call is for no object, or for one of these
  pub covers_receiver : Uses → Object → Bool
  covers_receiver uses no_object = true
  covers_receiver uses (of_object e) = covers_object uses e

-- ---- bounds of arrays

abbrev pub is_bound : LibCall → Bool
is_bound lib.UBound = true
is_bound lib.LBound = true
is_bound _ = false

abbrev pub is_constant_in : Term → Bool
is_constant_in (constant x origin) = true
is_constant_in t = false

abbrev pub is_constant : Expr → Bool
is_constant (typed ty t) = is_constant_in t

-- a dimension that is named by a constant, or none
abbrev pub covers_dimension : Exprs → Bool
covers_dimension no_exprs = true
covers_dimension (next_expr e no_exprs) = is_constant e
covers_dimension (next_expr e (next_expr d rest)) = false

-- an array variable and perhaps a dimension
abbrev pub covers_bounded : Uses → Exprs → Bool
covers_bounded uses no_exprs = false
covers_bounded uses (next_expr a rest) = covers_array uses a && covers_dimension rest

-- literals and uses of constants, variables, elements, fields, operators, conversions, calls of the library, bounds of arrays, Err.Number, calls,
-- and comparisons of objects
abbrev mutual
  pub covers_expr : Uses → Expr → Bool
  covers_expr uses (typed ty t) = covers_type ty && covers_term uses t

  pub covers_term : Uses → Term → Bool
  covers_term uses (constant x origin) = true
  covers_term uses (variable v qualified) = uses.scalar v && uses.named v qualified
  covers_term uses (field e k) =
      (has_scalar uses (type_at e) k && covers_base uses e) || (has_member uses (type_at e) k covers_type && covers_object uses e)
  covers_term uses (element e indexes) = covers_array uses e && covers_exprs uses indexes
  covers_term uses (call p qualified of args) = uses.gives p.0 && (covers_receiver uses of && covers_passed uses args)
  covers_term uses (library f args) = (covers_library f && covers_exprs uses args) || (is_bound f && covers_bounded uses args)
  covers_term uses (unary op e) = covers_expr uses e
  covers_term uses (binary op d e) = covers_operator op && (covers_expr uses d && covers_expr uses e)
  covers_term uses (convert to e) = covers_type to && covers_expr uses e
  covers_term uses (new_object c) = false
  covers_term uses me = false
  covers_term uses (with_object root) = false
  covers_term uses err_number = true
  covers_term uses (err_raise e) = false
  covers_term uses err_clear = false
  covers_term uses (is_same d e) = covers_operand uses d && covers_operand uses e
  covers_term uses (loose e rules) = false

  -- a user type or an object as a value: a place, an object that an object or an As New variable has, what a Function gives, Me, a new
  -- object, or Nothing
  pub covers_group : Uses → Expr → Bool
  covers_group uses (typed ty t) = covers_place_term uses ty t || covers_group_term uses ty t

  pub covers_group_term : Uses → Ty → Term → Bool
  covers_group_term uses ty (call p qualified of args) = uses.given ty && (uses.gives p.0 && (covers_receiver uses of && covers_passed uses args))
  covers_group_term uses ty (variable v qualified) = uses.auto v ty && uses.named v qualified
  covers_group_term uses ty (field e k) = covers_object_term uses ty (field e k)
  covers_group_term uses ty me = covers_object_term uses ty me
  covers_group_term uses ty (new_object c) = is_class_of (Some c.0) ty && uses.made c.0
  covers_group_term uses ty (convert to e) = uses.given ty && (is_class_type ty && (is_same_type ty to && is_nothing e))
  covers_group_term uses ty t = false

  -- what Is compares: objects, or Nothing itself
  pub covers_operand : Uses → Expr → Bool
  covers_operand uses (typed ty t) = is_nothing_in ty t || (is_class_type ty && (covers_place_term uses ty t || covers_group_term uses ty t))

  pub covers_exprs : Uses → Exprs → Bool
  covers_exprs uses no_exprs = true
  covers_exprs uses (next_expr e rest) = covers_expr uses e && covers_exprs uses rest

  pub covers_passed : Uses → Passed → Bool
  covers_passed uses no_passed = true
  covers_passed uses (next_passed a rest) = covers_argument uses a && covers_passed uses rest

  -- arguments by value and by reference
  pub covers_argument : Uses → Argument → Bool
  covers_argument uses (by_value e) = covers_expr uses e || covers_group uses e
  covers_argument uses (by_reference e) = (is_passable uses e && covers_expr uses e) || (covers_array uses e || covers_place uses e)

-- an expression of a type
abbrev pub covers_value : Uses → Ty → Expr → Bool
covers_value uses ty e = is_same_type ty (type_at e) && covers_expr uses e

-- ---- the order of an element's indexes and the value that is stored there

abbrev pub is_raising : Expr → Bool
is_raising (typed ty t) = raises_by t

-- where both can raise, what is written evaluates the value first, by a Put function
abbrev pub both_raise : (indexes : Exprs) → (value : Expr) → Bool
both_raise indexes e = list_any is_raising (nodes_of_all indexes) && list_any is_raising (nodes e)

abbrev pub gives_typed : Ty → Answer Value6 → Bool
gives_typed ty (answer.gives x) = is_typed ty x
gives_typed ty (answer.raises number) = false
gives_typed ty answer.outside = false

abbrev pub converts_constant_in : (to : Ty) → Term → Bool
converts_constant_in to (constant x origin) = gives_typed to (coerce x to)
converts_constant_in to t = false

abbrev pub converts_constant : (to : Ty) → Expr → Bool
converts_constant to (typed ty t) = converts_constant_in to t

-- a constant, or the conversion of one
abbrev pub is_literal_term : Ty → Term → Bool
is_literal_term ty (constant x origin) = true
is_literal_term ty (convert to e) = is_same_type to ty && converts_constant to e
is_literal_term ty t = false

abbrev pub is_literal_value : Expr → Bool
is_literal_value (typed ty t) = is_literal_term ty t

-- a conversion that has a value for each value of its first type
abbrev pub widens : (from to : Ty) → Bool
widens types.boolean types.byte = true
widens types.boolean types.integer = true
widens types.boolean types.long = true
widens types.boolean types.currency = true
widens types.byte types.integer = true
widens types.byte types.long = true
widens types.byte types.currency = true
widens types.integer types.long = true
widens types.integer types.currency = true
widens types.long types.currency = true
widens from to = false

-- what always has a value, and does nothing: constants, variables of their types, and conversions of such
abbrev mutual
  pub is_calm : Uses → Expr → Bool
  is_calm uses (typed ty t) = is_calm_term uses ty t

  pub is_calm_term : Uses → Ty → Term → Bool
  is_calm_term uses ty (constant x origin) = true
  is_calm_term uses ty (variable v qualified) = (uses.scalar v && uses.named v qualified) && (uses.exact v && (uses.is_of v ty && uses.relied v))
  is_calm_term uses ty (convert to e) = is_same_type to ty && (widens (type_at e) to && is_calm uses e)
  is_calm_term uses ty t = false

abbrev pub are_calm : Uses → Exprs → Bool
are_calm uses no_exprs = true
are_calm uses (next_expr e rest) = is_calm uses e && are_calm uses rest

abbrev pub is_seen_inward : Uses → Option ℕ → Bool
is_seen_inward uses None = true
is_seen_inward uses (Some q) = uses.inward q

abbrev pub is_new_term : Term → Bool
is_new_term (new_object c) = true
is_new_term t = false

abbrev pub is_new : Expr → Bool
is_new (typed ty t) = is_new_term t

abbrev pub is_auto_use_term : Uses → Ty → Term → Bool
is_auto_use_term uses ty (variable v qualified) = uses.auto v ty
is_auto_use_term uses ty t = false

-- the use of an As New variable
abbrev pub is_auto_use : Uses → Expr → Bool
is_auto_use uses (typed ty t) = is_auto_use_term uses ty t

-- calls of inward procedures alone, and no new objects, whose Class_Initialize is called
abbrev pub are_still : Uses → List Expr → Bool
are_still uses es = list_all (λ d. not (is_new d || is_auto_use uses d) && is_seen_inward uses (called d)) es

-- Both can raise, or the value is constant, or one is calm and the other still. What breaks no rule on the order of effects is mostly so;
-- what reads an element, or has an operator, isn't calm, and a fixed array isn't told from others.
abbrev pub keeps_order : Uses → (indexes : Exprs) → (value : Expr) → Bool
keeps_order uses indexes e =
    both_raise indexes e
    || (is_literal_value e || ((are_calm uses indexes && are_still uses (nodes e)) || (is_calm uses e && are_still uses (nodes_of_all indexes))))

-- ---- the order of an object and the value that one of its variables takes

-- an object that is the same, and is there, whatever still expression is evaluated: Me, what a With keeps, or a variable that isn't quiet
abbrev pub is_calm_object_term : Uses → Term → Bool
is_calm_object_term uses (variable v qualified) = uses.exact v
is_calm_object_term uses me = true
is_calm_object_term uses (with_object root) = true
is_calm_object_term uses t = false

abbrev pub is_calm_object : Uses → Expr → Bool
is_calm_object uses (typed ty t) = not (is_auto_use_term uses ty t) && is_calm_object_term uses t

-- The object is known before the value in what is written, and behind it in VB6.
abbrev pub keeps_object : Uses → (object value : Expr) → Bool
keeps_object uses d e =
    is_literal_value e || ((is_calm_object uses d && are_still uses (nodes e)) || (is_calm uses e && are_still uses (nodes d)))
