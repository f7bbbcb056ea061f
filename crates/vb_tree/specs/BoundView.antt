-- The declarations and bound expressions without memory that those of the code stand for.
use Rattle.std.specs.Prelude.{map}
use Rattle.vb_tree.specs.declared.bound.BoundArg.{BoundArg}
use Rattle.vb_tree.specs.declared.bound.BoundArg.TheVariants as a
use Rattle.vb_tree.specs.declared.bound.Bound.{Bound as Bound6}
use Rattle.vb_tree.specs.declared.bound.BoundBody.{BoundBody}
use Rattle.vb_tree.specs.declared.bound.BoundExpr.{BoundExpr}
use Rattle.vb_tree.specs.declared.bound.BoundNode.{BoundNode, Held-BoundNode-Call-1, None', Some', Row_of-BoundArg, end_of-BoundArg, more_of-BoundArg, Row_of-BoundExpr, end_of-BoundExpr, more_of-BoundExpr}
use Rattle.vb_tree.specs.declared.bound.BoundNode.TheVariants as n
use Rattle.vb_tree.specs.declared.declared.Declared.{Declared}
use Rattle.vb_tree.specs.declared.declared.ProcDecl.{ProcDecl}
use Rattle.vb_tree.specs.declared.declared.VarDecl.{VarDecl}
use Rattle.vb_tree.specs.declared.value.Type6.{Type6}
use Rattle.vb_tree.specs.declared.value.Type6.TheVariants as t
use Rattle.vb_tree.specs.View.{exp_of, project_of}
use Rattle.vb_tree.specs.BoundTree.{Ty, boolean, byte, integer, long, currency, str, fixed, user, class, object, variant, array, nothing, unknown, Variable, ProcedureDecl, Declarations, Expr, typed, Term, constant, variable, field, element, call, library, unary, binary, convert, new_object, me, with_object, err_number, err_raise, err_clear, is_same, loose, Object, no_object, of_object, Exprs, no_exprs, next_expr, Passed, no_passed, by_value, by_reference, Body, Bound}

abbrev pub type_of : Type6 → Ty
type_of t.Boolean = boolean
type_of t.Byte = byte
type_of t.Integer = integer
type_of t.Long = long
type_of t.Currency = currency
type_of t.Str = str
type_of (t.Fixed units) = fixed units
type_of (t.User k) = user k
type_of (t.Class k) = class k
type_of t.Object = object
type_of t.Variant = variant
type_of (t.Array' p e rank) = array (type_of e) rank
type_of t.Nothing = nothing
type_of t.Unknown = unknown

abbrev pub variable_of : VarDecl → Variable
variable_of v = record { name = v.name; place = v.place; owner = v.owner; ty = type_of v.ty; bounds = v.bounds; auto = v.auto; preset = v.preset }

abbrev pub procedure_decl_of : ProcDecl → ProcedureDecl
procedure_decl_of p = record { name = p.name; place = p.place; module_number = p.module; kind = p.kind; params = p.params; result = type_of p.result }

abbrev pub declarations_of : Declared → Declarations
declarations_of d = record {
  project = project_of d.project;
  vars = map variable_of d.vars;
  procs = map procedure_decl_of d.procs;
  types = d.types;
  consts = d.consts;
  defaults = d.defaults;
}

abbrev mutual
  pub term_of : BoundNode → Term
  term_of (n.Const v hexadecimal) = constant v hexadecimal
  term_of (n.Var v) = variable v
  term_of (n.Field' p ty e k) = field (typed (type_of ty) (term_of e)) k
  term_of (n.Element' p ty e shape indexes) = element (typed (type_of ty) (term_of e)) (exprs_in_row indexes)
  term_of (n.Call' procedure of shape args) = call procedure (object_in of) (passed_in_row args)
  term_of (n.Lib' function shape args) = library function (exprs_in_row args)
  term_of (n.Unary' op p ty e) = unary op (typed (type_of ty) (term_of e))
  term_of (n.Binary' op p ty e q uy f) = binary op (typed (type_of ty) (term_of e)) (typed (type_of uy) (term_of f))
  term_of (n.Convert' to p ty e) = convert (type_of to) (typed (type_of ty) (term_of e))
  term_of (n.New c) = new_object c
  term_of n.Me = me
  term_of n.WithObject = with_object
  term_of n.ErrNumber = err_number
  term_of (n.ErrRaise' p ty e) = err_raise (typed (type_of ty) (term_of e))
  term_of n.ErrClear = err_clear
  term_of (n.Is' p ty e q uy f) = is_same (typed (type_of ty) (term_of e)) (typed (type_of uy) (term_of f))
  term_of (n.Loose e) = loose (exp_of e)

  pub exprs_in_row : {k : _} → Row_of-BoundExpr k → Exprs
  exprs_in_row end_of-BoundExpr = no_exprs
  exprs_in_row (more_of-BoundExpr ty e rest) = next_expr (typed (type_of ty) (term_of e)) (exprs_in_row rest)

  pub passed_in_row : {k : _} → Row_of-BoundArg k → Passed
  passed_in_row end_of-BoundArg = no_passed
  passed_in_row (more_of-BoundArg arg rest) = with_argument arg (passed_in_row rest)

  pub with_argument : BoundArg → Passed → Passed
  with_argument (a.ByValue' ty e) more = by_value (typed (type_of ty) (term_of e)) more
  with_argument (a.ByReference' ty e) more = by_reference (typed (type_of ty) (term_of e)) more

  pub object_in : Held-BoundNode-Call-1 → Object
  object_in None' = no_object
  object_in (Some' p ty e) = of_object (typed (type_of ty) (term_of e))

abbrev pub expr_of : BoundExpr → Expr
expr_of e = typed (type_of e.ty) (term_of e.node)

abbrev pub body_of : BoundBody → Body
body_of b = record { procedure = b.procedure; lines = map (map expr_of) b.lines }

abbrev pub bound_of : Bound6 → Bound
bound_of b = record { declarations = declarations_of b.declared; bodies = map body_of b.bodies }
