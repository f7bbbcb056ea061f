-- The paths of each expression that holds a list.
use Rattle.std.proofs.Common.{◌≡◌, ◌++◌, sym, ap, Global}
use Rattle.std.specs.Prelude.{Vec, Box}
use Rattle.net_tree.specs.declared.expression.NetExpr.{NetExpr}
use Rattle.net_tree.specs.declared.expression.NetExpr.TheVariants as e
use Rattle.net_tree.specs.declared.expression.NetType.{NetType}
use Rattle.net_tree.specs.View.{exp_of, exps_of}
use Rattle.net_tree.proofs.Views.{exps_hidden}
use Rattle.support_modules.specs.Paths.{paths_of_exp, paths_of_exps}

pub call_listed : (callee : Box NetExpr Global) (args : Vec NetExpr Global) → paths_of_exp (exp_of callee.value) ++ paths_of_exps (exps_of args.items) ≡ paths_of_exp (exp_of (e.Call callee args))
call_listed callee args = ap (λ xs. paths_of_exp (exp_of callee.value) ++ paths_of_exps xs) (sym (exps_hidden args))

pub object_listed : (t : NetType) (args : Vec NetExpr Global) → paths_of_exps (exps_of args.items) ≡ paths_of_exp (exp_of (e.NewObject t args))
object_listed t args = ap paths_of_exps (sym (exps_hidden args))

pub array_listed : (t : NetType) (args : Vec NetExpr Global) → paths_of_exps (exps_of args.items) ≡ paths_of_exp (exp_of (e.NewArray t args))
array_listed t args = ap paths_of_exps (sym (exps_hidden args))
