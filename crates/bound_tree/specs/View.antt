-- The declarations and bound expressions without memory that those of the code stand for.
use Rattle.std.specs.Prelude.{ℕ, ◌+◌, map, List, [], ◌∷◌, ◌++◌, Option, Some, None, Box, slice_get}
use Rattle.std.specs.Borrow.{Bor}
use Rattle.std.proofs.Common.{Global}
use Rattle.vb_tree.specs.BoundView.{type_of}
use Rattle.vb_tree.specs.Tree as source
use Rattle.vb_tree.specs.View.{exp_of, line_of, project_of}
use Rattle.bound_tree.specs.declared.body.Bound.{Bound}
use Rattle.bound_tree.specs.declared.body.BoundBody.{BoundBody}
use Rattle.bound_tree.specs.declared.body.BoundLine.{BoundLine}
use Rattle.bound_tree.specs.declared.declared.ConstDecl.{ConstDecl}
use Rattle.bound_tree.specs.declared.declared.Declared.{Declared}
use Rattle.bound_tree.specs.declared.declared.ProcDecl.{ProcDecl}
use Rattle.bound_tree.specs.declared.declared.VarDecl.{VarDecl}
use Rattle.bound_tree.specs.declared.expression.BoundArg.{BoundArg}
use Rattle.bound_tree.specs.declared.expression.BoundArg.TheVariants as a
use Rattle.bound_tree.specs.declared.expression.BoundExpr.{BoundExpr}
use Rattle.bound_tree.specs.declared.expression.BoundNode.{BoundNode, Held-BoundNode-Call-2, None', Some', Row_of-BoundArg, end_of-BoundArg, more_of-BoundArg, Row_of-BoundExpr, end_of-BoundExpr, more_of-BoundExpr}
use Rattle.bound_tree.specs.declared.expression.BoundNode.TheVariants as n
use Rattle.bound_tree.specs.declared.lines.LineRef.{LineRef}
use Rattle.bound_tree.specs.Source.{procedures_of, code_of}
use Rattle.bound_tree.specs.Tree.{Variable, Constant, Procedure, Declarations, Expr, typed, Term, constant, variable, field, element, call, library, unary, binary, convert, new_object, me, with_object, err_number, err_raise, err_clear, is_same, loose, Object, no_object, of_object, Exprs, no_exprs, next_expr, Argument, by_value, by_reference, Passed, no_passed, next_passed, Bindings, Line, Program}

abbrev pub variable_of : VarDecl → Variable
variable_of v = record {
  name = v.name;
  place = v.place;
  statement = v.statement;
  owner = v.owner;
  ty = type_of v.ty;
  named = type_of v.named;
  qualified = v.qualified;
  lettered = v.lettered;
  bounds = v.bounds;
  auto = v.auto;
  preset = v.preset;
}

abbrev pub constant_of : ConstDecl → Constant
constant_of c = record { name = c.name; place = c.place; statement = c.statement; owner = c.owner; ty = type_of c.ty; value = c.value }

abbrev pub procedure_of : ProcDecl → Procedure
procedure_of p = record {
  name = p.name;
  place = p.place;
  module_number = p.module;
  kind = p.kind;
  visibility = p.visibility;
  params = p.params;
  result = type_of p.result;
  answer = p.answer;
  first = p.first;
}

abbrev pub declarations_of : Declared → Declarations
declarations_of d = record {
  project = project_of d.project;
  names = d.names;
  vars = map variable_of d.vars;
  consts = map constant_of d.consts;
  procs = map procedure_of d.procs;
  types = d.types;
  enums = d.enums;
  defaults = d.defaults;
}

abbrev mutual
  pub term_of : BoundNode → Term
  term_of (n.Const v origin) = constant v origin
  term_of (n.Var v qualified) = variable v qualified
  term_of (n.Field' p ty e k) = field (typed (type_of ty) (term_of e)) k
  term_of (n.Element' p ty e shape indexes) = element (typed (type_of ty) (term_of e)) (exprs_in_row indexes)
  term_of (n.Call' procedure qualified of shape args) = call procedure qualified (object_in of) (passed_in_row args)
  term_of (n.Lib' function shape args) = library function (exprs_in_row args)
  term_of (n.Unary' op p ty e) = unary op (typed (type_of ty) (term_of e))
  term_of (n.Binary' op p ty e q uy f) = binary op (typed (type_of ty) (term_of e)) (typed (type_of uy) (term_of f))
  term_of (n.Convert' to p ty e) = convert (type_of to) (typed (type_of ty) (term_of e))
  term_of (n.New c) = new_object c
  term_of n.Me = me
  term_of (n.WithObject root) = with_object root
  term_of n.ErrNumber = err_number
  term_of (n.ErrRaise' p ty e) = err_raise (typed (type_of ty) (term_of e))
  term_of n.ErrClear = err_clear
  term_of (n.Is' p ty e q uy f) = is_same (typed (type_of ty) (term_of e)) (typed (type_of uy) (term_of f))
  term_of (n.Loose e rules) = loose (exp_of e) rules

  pub exprs_in_row : {k : _} → Row_of-BoundExpr k → Exprs
  exprs_in_row end_of-BoundExpr = no_exprs
  exprs_in_row (more_of-BoundExpr ty e rest) = next_expr (typed (type_of ty) (term_of e)) (exprs_in_row rest)

  pub passed_in_row : {k : _} → Row_of-BoundArg k → Passed
  passed_in_row end_of-BoundArg = no_passed
  passed_in_row (more_of-BoundArg arg rest) = next_passed (argument_of arg) (passed_in_row rest)

  pub argument_of : BoundArg → Argument
  argument_of (a.ByValue' ty e) = by_value (typed (type_of ty) (term_of e))
  argument_of (a.ByReference' ty e) = by_reference (typed (type_of ty) (term_of e))

  pub object_in : Held-BoundNode-Call-2 → Object
  object_in None' = no_object
  object_in (Some' p ty e) = of_object (typed (type_of ty) (term_of e))

abbrev pub expr_of : BoundExpr → Expr
expr_of e = typed (type_of e.ty) (term_of e.node)

abbrev pub object_of : Option (Box BoundExpr Global) → Object
object_of None = no_object
object_of (Some b) = of_object (expr_of b.value)

abbrev pub exprs_of : List BoundExpr → Exprs
exprs_of [] = no_exprs
exprs_of (e ∷ rest) = next_expr (expr_of e) (exprs_of rest)

abbrev pub passed_of : List BoundArg → Passed
passed_of [] = no_passed
passed_of (arg ∷ rest) = next_passed (argument_of arg) (passed_of rest)

-- what a reference to an expression shows
abbrev pub shown : Bor BoundExpr → Expr
shown r = expr_of r.now

abbrev pub bindings_of : BoundLine → Bindings
bindings_of l = record { exprs = map expr_of l.exprs; rules = l.rules; mentions = l.mentions }

-- what references to a code line and to what is bound in it show
abbrev pub shown_line : LineRef → Line
shown_line l = record { source = line_of l.source.now; bindings = bindings_of l.bound.now }

-- a code line with what is bound in it, where something is
abbrev pub with_bindings : source.Line → Option BoundLine → List Line
with_bindings l None = []
with_bindings l (Some b) = record { source = l; bindings = bindings_of b } ∷ []

-- code lines that are numbered from i, each with what is bound in the line of its number
abbrev pub joined : List BoundLine → ℕ → List source.Line → List Line
joined bs i [] = []
joined bs i (l ∷ ls) = with_bindings l (slice_get bs i) ++ joined bs (i + 1) ls

-- the code lines of a procedure, where its body is bound
abbrev pub with_body : source.Nodes → Option BoundBody → List (List Line)
with_body p None = []
with_body p (Some b) = joined b.lines 0 (code_of p) ∷ []

-- those of procedures that are numbered from i, each with the body of its number
abbrev pub bodies_of : List BoundBody → ℕ → List source.Nodes → List (List Line)
bodies_of bs i [] = []
bodies_of bs i (p ∷ ps) = with_body p (slice_get bs i) ++ bodies_of bs (i + 1) ps

abbrev pub program_of : Bound → Program
program_of b = record { declarations = declarations_of b.declared; bodies = bodies_of b.bodies 0 (procedures_of (project_of b.declared.project)) }
