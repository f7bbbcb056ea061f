-- Written assignments and calls are plain lines.
use Rattle.std.proofs.Common.{◌≡◌, ℕ, Bool, true, false, List, [], ◌∷◌, Option, Some, None, refl}
use Rattle.bound_tree.specs.Targets.{plain}
use Rattle.bound_tree.specs.Tree.{Expr}
use Rattle.bound_facts.specs.Node.{type_at}
use Rattle.net_tree.specs.Blocks.{is_code}
use Rattle.net_tree.specs.Tree as net
use Rattle.net_run.specs.Steps.{step_of, tests, label_in}
use Rattle.written_trees.specs.Exprs.{exp_of}
use Rattle.written_trees.specs.Lines.{as_call, assign_line, call_line, erase_line, set_line}
use Rattle.written_trees.specs.Names.{Scope}
use Rattle.written_trees.specs.Puts.{order_shows, put_type, store_by, stored_value}

-- a code line that is nothing to the blocks round it, and no label
pub record IsPlain (l : net.Line) : Type 0 where
  pub is_plain : step_of l ≡ plain
  pub is_untested : tests l ≡ false
  pub is_no_label : label_in l ≡ None
  pub is_no_comment : is_code l ≡ true

call_plain : (callee : net.Exp) (args : net.Exps) → IsPlain (net.call callee args)
call_plain callee args = record { is_plain = refl; is_untested = refl; is_no_label = refl; is_no_comment = refl }

assign_plain : (target value : net.Exp) → IsPlain (net.assign target value)
assign_plain target value = record { is_plain = refl; is_untested = refl; is_no_label = refl; is_no_comment = refl }

as_call_plain : (e : net.Exp) → IsPlain (as_call e)
as_call_plain (net.call_of callee args) = call_plain callee args
as_call_plain _ = record { is_plain = refl; is_untested = refl; is_no_label = refl; is_no_comment = refl }

store_plain : (shows : Bool) (ty : Option (List ℕ)) (target value : net.Exp) → IsPlain (store_by shows ty target value)
store_plain shows None target value = assign_plain target value
store_plain true (Some ty) target value = record { is_plain = refl; is_untested = refl; is_no_label = refl; is_no_comment = refl }
store_plain false (Some ty) target value = assign_plain target value

pub assigned : (S : Scope) (es : List Expr) → IsPlain (assign_line S es)
assigned S [] = call_plain (net.path []) net.no_exps
assigned S (to ∷ []) = call_plain (net.path []) net.no_exps
assigned S (to ∷ e ∷ es) = store_plain (order_shows S.declarations to e) (put_type (type_at to)) (exp_of S to) (stored_value S to e)

pub object_set : (S : Scope) (es : List Expr) → IsPlain (set_line S es)
object_set S [] = call_plain (net.path []) net.no_exps
object_set S (to ∷ []) = call_plain (net.path []) net.no_exps
object_set S (to ∷ e ∷ es) = record { is_plain = refl; is_untested = refl; is_no_label = refl; is_no_comment = refl }

pub called : (S : Scope) (es : List Expr) → IsPlain (call_line S es)
called S [] = call_plain (net.path []) net.no_exps
called S (e ∷ es) = as_call_plain (exp_of S e)

pub erased : (S : Scope) (es : List Expr) → IsPlain (erase_line S es)
erased S [] = call_plain (net.path []) net.no_exps
erased S (e ∷ es) = record { is_plain = refl; is_untested = refl; is_no_label = refl; is_no_comment = refl }
