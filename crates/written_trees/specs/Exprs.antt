-- What is written for bound expressions.
use Rattle.std.specs.Prelude.{ℕ, zero, suc, nat_eq, ℤ, pos, Bool, true, false, cond, not, ◌&&◌, List, codes, Option, Some, None}
use Rattle.std.specs.Ordering.{int_eq}
use Rattle.vb_tree.specs.BoundTree.{Ty}
use Rattle.vb_tree.specs.declared.bound.LibCall.{LibCall}
use Rattle.bound_tree.specs.Tree.{Declarations, Expr, typed, Term, constant, variable, field, element, call, library, unary, binary, convert, new_object, me, with_object, err_number, err_raise, err_clear, is_same, loose, Object, no_object, of_object, Exprs, no_exprs, next_expr, Argument, by_value, by_reference, Passed, no_passed, next_passed}
use Rattle.bound_facts.specs.Node.{declared_in, auto_class, variable_number}
use Rattle.net_tree.specs.declared.expression.NetBin.TheVariants as op
use Rattle.net_tree.specs.Tree as net
use Rattle.net_tree.specs.Types as types
use Rattle.written_trees.specs.Names.{Scope, member, variable_path, variable_name, procedure_path, procedure_name, class_path, auto_name}
use Rattle.written_trees.specs.Literals.{written_constant}
use Rattle.written_trees.specs.Conversions.{one, two, support_call, converted}
use Rattle.written_trees.specs.Operators.{binary_exp, unary_exp}
use Rattle.written_trees.specs.Library.{library_call, low_at, low_exp}
use Rattle.written_trees.specs.Arguments.{is_property, takes_reference, argument_exp}
use Rattle.written_trees.specs.LooseExprs.{loose_exp}

-- ---- As New

abbrev pub made_if : Declarations → Option ℕ → net.Exp → net.Exp
made_if D None a = a
made_if D (Some c) a = support_call (auto_name D c) (one a)

-- the use of an As New variable or field makes its object where there is none
abbrev pub used : Scope → Term → net.Exp → net.Exp
used S t a = made_if S.declarations (auto_class (variable_number S.declarations.vars (declared_in S.declarations t))) a

-- ---- elements

abbrev pub is_zero : ℤ → Bool
is_zero z = int_eq z (pos 0)

-- an index of an array whose lower bound is 0 stands as it is
abbrev pub index_from : (low : ℤ) → net.Exp → net.Exp
index_from low i = cond (is_zero low) i (support_call (codes "At") (two i (low_exp low)))

-- there are lower bounds in two dimensions
abbrev pub index_at : Scope → (array : Expr) → (dimension : ℕ) → net.Exp → net.Exp
index_at S e zero i = index_from (low_at S e 0) i
index_at S e (suc zero) i = index_from (low_at S e 1) i
index_at S e (suc (suc d)) i = i

-- ---- calls

abbrev pub is_procedure : Option ℕ → ℕ → Bool
is_procedure None p = false
is_procedure (Some q) p = nat_eq q p

abbrev pub is_without_object : Object → Bool
is_without_object no_object = true
is_without_object (of_object e) = false

-- a property that its own Get names by itself, where its name alone is its result
abbrev pub reads_itself : Scope → (procedure : ℕ) → (qualified : Bool) → Object → Bool
reads_itself S p qualified of = is_procedure S.procedure p && (not qualified && is_without_object of)

abbrev pub has_none : Passed → Bool
has_none no_passed = true
has_none (next_passed a rest) = false

-- the use of a property without arguments is its name alone
abbrev pub is_bare : Scope → (procedure : ℕ) → (qualified : Bool) → Object → Passed → Bool
is_bare S p qualified of args = is_property S.declarations p && (has_none args && not (reads_itself S p qualified of))

abbrev pub called : (bare : Bool) → net.Exp → net.Exps → net.Exp
called bare callee args = cond bare callee (net.call_of callee args)

-- ---- members

-- what is written for a member of a node that is written `a`; of the object of a With the member alone is written
abbrev pub member_in : Term → net.Exp → List ℕ → net.Exp
member_in (with_object root) a name = net.with_dot name
member_in t a name = member a name

abbrev pub member_of : Expr → net.Exp → List ℕ → net.Exp
member_of (typed ty t) a name = member_in t a name

abbrev pub field_name : Scope → (of : Expr) → (place : ℕ) → List ℕ
field_name S e k = variable_name S.declarations (declared_in S.declarations (field e k))

-- ---- expressions

abbrev mutual
  pub exp_of : Scope → Expr → net.Exp
  exp_of S (typed ty t) = term_exp S ty t

  pub term_exp : Scope → Ty → Term → net.Exp
  term_exp S ty (constant x origin) = written_constant x origin
  term_exp S ty (variable v qualified) = used S (variable v qualified) (net.path (variable_path S qualified v.0))
  term_exp S ty (field e k) = used S (field e k) (member_of e (exp_of S e) (field_name S e k))
  term_exp S ty (element e indexes) = net.call_of (exp_of S e) (indexes_of S e 0 indexes)
  term_exp S ty (call p qualified of args) =
      called (is_bare S p.0 qualified of args) (callee_of S p.0 qualified of) (passed_of S p.0 0 args)
  term_exp S ty (library f args) = library_of S ty f args
  term_exp S ty (unary o e) = unary_exp o ty e (exp_of S e)
  term_exp S ty (binary o e f) = binary_exp o ty e f (exp_of S e) (exp_of S f)
  term_exp S ty (convert to e) = converted to e (exp_of S e)
  term_exp S ty (new_object c) = net.new_object (types.named (class_path S.declarations c.0)) net.no_exps
  term_exp S ty me = net.me
  term_exp S ty (with_object root) = net.nothing
  term_exp S ty err_number = support_call (codes "ErrNumber") net.no_exps
  term_exp S ty (err_raise e) = support_call (codes "Raise") (one (exp_of S e))
  term_exp S ty err_clear = support_call (codes "ErrClear") net.no_exps
  term_exp S ty (is_same e f) = net.binary op.Is (exp_of S e) (exp_of S f)
  term_exp S ty (loose e rules) = loose_exp e

  pub callee_of : Scope → (procedure : ℕ) → (qualified : Bool) → Object → net.Exp
  callee_of S p qualified no_object = net.path (procedure_path S qualified p)
  callee_of S p qualified (of_object e) = member_of e (exp_of S e) (procedure_name S.declarations p)

  -- indexes from a dimension on
  pub indexes_of : Scope → (array : Expr) → (dimension : ℕ) → Exprs → net.Exps
  indexes_of S a d no_exprs = net.no_exps
  indexes_of S a d (next_expr e rest) = net.next_exp (index_at S a d (exp_of S e)) (indexes_of S a (suc d) rest)

  -- arguments from the one at a place on
  pub passed_of : Scope → (procedure place : ℕ) → Passed → net.Exps
  passed_of S p i no_passed = net.no_exps
  passed_of S p i (next_passed a rest) = net.next_exp (argument_exp S (takes_reference S.declarations p i) a (given_exp S a)) (passed_of S p (suc i) rest)

  pub given_exp : Scope → Argument → net.Exp
  given_exp S (by_value e) = exp_of S e
  given_exp S (by_reference e) = exp_of S e

  pub library_of : Scope → (result : Ty) → LibCall → Exprs → net.Exp
  library_of S ty f no_exprs = net.nothing
  library_of S ty f (next_expr e rest) = library_call S f ty e rest (exp_of S e) (net.next_exp (exp_of S e) (exps_of S rest))

  pub exps_of : Scope → Exprs → net.Exps
  exps_of S no_exprs = net.no_exps
  exps_of S (next_expr e rest) = net.next_exp (exp_of S e) (exps_of S rest)

-- ---- where a new object is put, a variable is no use

abbrev pub target_term : Scope → Ty → Term → net.Exp
target_term S ty (variable v qualified) = net.path (variable_path S qualified v.0)
target_term S ty (field e k) = member_of e (exp_of S e) (field_name S e k)
target_term S ty t = term_exp S ty t

abbrev pub target_exp : Scope → Expr → net.Exp
target_exp S (typed ty t) = target_term S ty t
