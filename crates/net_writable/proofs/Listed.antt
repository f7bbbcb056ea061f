-- The lists in an expression of the code are those of its plain tree.
use Rattle.std.proofs.Common.{◌≡◌, ◌&&◌, true, ◌∙◌, sym, ap, Global}
use Rattle.std.specs.Prelude.{Vec, Box}
use Rattle.net_tree.specs.declared.expression.NetExpr.{NetExpr}
use Rattle.net_tree.specs.declared.expression.NetExpr.TheBlock as block
use Rattle.net_tree.specs.declared.expression.NetExpr.TheVariants as e
use Rattle.net_tree.specs.declared.expression.NetType.{NetType}
use Rattle.net_tree.specs.Expressions.{are_writable_bounds, are_writable_exps, is_named, is_writable_exp, is_writable_type}
use Rattle.net_tree.specs.View.{exp_of, exps_of, exps_in_row, type_name_of}
use Rattle.net_tree.proofs.Views.{exps_hidden}

pub call_listed :
    (callee : Box NetExpr Global) (args : Vec NetExpr Global) → is_writable_exp (exp_of callee.value) ≡ true
    → are_writable_exps (exps_of args.items) ≡ is_writable_exp (exp_of (e.Call callee args))
call_listed callee args writable = ap are_writable_exps (sym (exps_hidden args)) ∙ sym (ap (λ b. b && are_writable_exps (exps_in_row (block.hidden-the_row-NetExpr-0 args))) writable)

pub object_listed :
    (t : NetType) (args : Vec NetExpr Global) → (is_named (type_name_of t) && is_writable_type (type_name_of t)) ≡ true
    → are_writable_exps (exps_of args.items) ≡ is_writable_exp (exp_of (e.NewObject t args))
object_listed t args writable = ap are_writable_exps (sym (exps_hidden args)) ∙ sym (ap (λ b. b && are_writable_exps (exps_in_row (block.hidden-the_row-NetExpr-0 args))) writable)

pub array_listed :
    (t : NetType) (bounds : Vec NetExpr Global) → is_writable_type (type_name_of t) ≡ true
    → are_writable_bounds (exps_of bounds.items) ≡ is_writable_exp (exp_of (e.NewArray t bounds))
array_listed t bounds writable = ap are_writable_bounds (sym (exps_hidden bounds)) ∙ sym (ap (λ b. b && are_writable_bounds (exps_in_row (block.hidden-the_row-NetExpr-0 bounds))) writable)
