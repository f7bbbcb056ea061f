-- A call as a line is written as one, also where it is of a property, which is its name alone elsewhere.
use Rattle.std.proofs.Common.{◌≡◌, refl, ℕ, Bool, true, false, ◌&&◌, List}
use Rattle.vb_tree.specs.BoundTree.{Ty}
use Rattle.vb_tree.specs.declared.declared.ProcId.{ProcId}
use Rattle.bound_tree.specs.Tree.{typed, call, with_object, Object, no_object, of_object, Passed, no_passed, next_passed}
use Rattle.net_tree.specs.Tree as net
use Rattle.written_trees.specs.Arguments.{is_property}
use Rattle.written_trees.specs.Exprs as written
use Rattle.written_trees.specs.Exprs.{callee_of, exp_of, is_bare, passed_of}
use Rattle.written_trees.specs.Lines.{as_call}
use Rattle.written_trees.specs.Names.{Scope, member, procedure_name}

-- a name alone calls what it names
member_called : (a : net.Exp) (name : List ℕ) → as_call (member a name) ≡ net.call (member a name) net.no_exps
member_called (net.path names) name = refl
member_called _ name = refl

callee_called : (T : Scope) (q : ℕ) (qualified : Bool) (of : Object) → as_call (callee_of T q qualified of) ≡ net.call (callee_of T q qualified of) net.no_exps
callee_called T q qualified no_object = refl
callee_called T q qualified (of_object (typed ty (with_object r))) = refl
callee_called T q qualified (of_object (typed ty t)) = member_called (exp_of T (typed ty t)) (procedure_name T.declarations q)

bare_or_not : (b : Bool) (callee : net.Exp) → as_call callee ≡ net.call callee net.no_exps
    → as_call (written.called b callee net.no_exps) ≡ net.call callee net.no_exps
bare_or_not true callee is = is
bare_or_not false callee is = refl

not_bare : (b : Bool) (callee : net.Exp) (args : net.Exps) → as_call (written.called (b && false) callee args) ≡ net.call callee args
not_bare true callee args = refl
not_bare false callee args = refl

pub call_is : (T : Scope) (ty : Ty) (q : ProcId) (qualified : Bool) (of : Object) (args : Passed)
    → as_call (exp_of T (typed ty (call q qualified of args))) ≡ net.call (callee_of T q.0 qualified of) (passed_of T q.0 0 args)
call_is T ty q qualified of no_passed =
    bare_or_not (is_bare T q.0 qualified of no_passed) (callee_of T q.0 qualified of) (callee_called T q.0 qualified of)
call_is T ty q qualified of (next_passed a rest) =
    not_bare (is_property T.declarations q.0) (callee_of T q.0 qualified of) (passed_of T q.0 0 (next_passed a rest))
