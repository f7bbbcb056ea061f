-- The lists in a tree of the code are those of its plain tree.
use Rattle.std.proofs.Common.{◌≡◌, Bool, refl, ap, ◌∙◌, Global}
use Rattle.std.specs.Prelude.{Vec, Option, Some, None, Box}
use Rattle.bound_tree.specs.declared.expression.BoundArg.{BoundArg}
use Rattle.bound_tree.specs.declared.expression.BoundArg.TheBlock as b
use Rattle.bound_tree.specs.declared.expression.BoundExpr.{BoundExpr}
use Rattle.bound_tree.specs.declared.expression.BoundNode.{Row_of-BoundArg, end_of-BoundArg, more_of-BoundArg, Row_of-BoundExpr, end_of-BoundExpr, more_of-BoundExpr, items-the_row-BoundArg, items-the_row-BoundExpr, items_hidden-the_row-BoundArg-1, items_hidden-the_row-BoundExpr-0}
use Rattle.bound_tree.specs.declared.expression.BoundNode.TheVariants as n
use Rattle.bound_tree.specs.Tree.{typed, next_expr, next_passed, element, library, call, no_object, of_object}
use Rattle.bound_tree.specs.View.{expr_of, object_of, term_of, exprs_of, exprs_in_row, passed_of, passed_in_row, argument_of}
use Rattle.vb_tree.specs.BoundView.{type_of}
use Rattle.vb_tree.specs.declared.bound.LibCall.{LibCall}
use Rattle.vb_tree.specs.declared.declared.ProcId.{ProcId}

exprs_listed : {n : _} (k : Row_of-BoundExpr n) → exprs_in_row k ≡ exprs_of (items-the_row-BoundExpr n k)
exprs_listed end_of-BoundExpr = refl
exprs_listed (more_of-BoundExpr ty e rest) = ap (next_expr (typed (type_of ty) (term_of e))) (exprs_listed rest)

passed_listed : {n : _} (k : Row_of-BoundArg n) → passed_in_row k ≡ passed_of (items-the_row-BoundArg n k)
passed_listed end_of-BoundArg = refl
passed_listed (more_of-BoundArg arg rest) = ap (next_passed (argument_of arg)) (passed_listed rest)

pub exprs_hidden : (v : Vec BoundExpr Global) → exprs_in_row (b.hidden-the_row-BoundExpr-0 v) ≡ exprs_of v.items
exprs_hidden v = exprs_listed (b.hidden-the_row-BoundExpr-0 v) ∙ ap exprs_of (items_hidden-the_row-BoundExpr-0 v)

pub passed_hidden : (v : Vec BoundArg Global) → passed_in_row (b.hidden-the_row-BoundArg-1 v) ≡ passed_of v.items
passed_hidden v = passed_listed (b.hidden-the_row-BoundArg-1 v) ∙ ap passed_of (items_hidden-the_row-BoundArg-1 v)

-- a node of the code that holds a list, as the plain node
pub element_shown : (of : Box BoundExpr Global) (v : Vec BoundExpr Global) → term_of (n.Element of v) ≡ element (expr_of of.value) (exprs_of v.items)
element_shown of v = ap (element (expr_of of.value)) (exprs_hidden v)

pub lib_shown : (function : LibCall) (v : Vec BoundExpr Global) → term_of (n.Lib function v) ≡ library function (exprs_of v.items)
lib_shown function v = ap (library function) (exprs_hidden v)

pub call_shown : (p : ProcId) (qualified : Bool) (o : Option (Box BoundExpr Global)) (v : Vec BoundArg Global)
    → term_of (n.Call p qualified o v) ≡ call p qualified (object_of o) (passed_of v.items)
call_shown p qualified None v = ap (call p qualified no_object) (passed_hidden v)
call_shown p qualified (Some e) v = ap (call p qualified (of_object (expr_of e.value))) (passed_hidden v)
