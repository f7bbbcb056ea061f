-- The walk over the expressions of a list in the code.
use Rattle.std.proofs.Common.{◌≡◌, List, [], ◌∷◌, refl, sym, ap, Global}
use Rattle.std.specs.Prelude.{Vec, Box}
use Rattle.std.specs.List.{fold}
use Rattle.net_tree.specs.declared.expression.NetExpr.{NetExpr}
use Rattle.net_tree.specs.declared.expression.NetExpr.TheVariants as e
use Rattle.net_tree.specs.declared.expression.NetType.{NetType}
use Rattle.net_tree.specs.View.{exp_of, exps_of}
use Rattle.net_tree.proofs.Views.{exps_hidden}
use Rattle.support_text.specs.declared.used.Used.{Used}
use Rattle.support_text.specs.Noting.{noted}
use Rattle.support_text.specs.Walk.{walk_exp, walk_exps}

abbrev pub walked : Used → NetExpr → Used
walked used a = walk_exp noted used (exp_of a)

pub list_walked : (used : Used) (items : List NetExpr) → fold walked used items ≡ walk_exps noted used (exps_of items)
list_walked used [] = refl
list_walked used (a ∷ more) = list_walked (walked used a) more

-- the walk over each expression that holds a list
pub call_walked : (used : Used) (callee : Box NetExpr Global) (args : Vec NetExpr Global) → walk_exps noted (walked used callee.value) (exps_of args.items) ≡ walked used (e.Call callee args)
call_walked used callee args = ap (walk_exps noted (walked used callee.value)) (sym (exps_hidden args))

pub object_walked : (used : Used) (t : NetType) (args : Vec NetExpr Global) → walk_exps noted used (exps_of args.items) ≡ walked used (e.NewObject t args)
object_walked used t args = ap (walk_exps noted used) (sym (exps_hidden args))

pub array_walked : (used : Used) (t : NetType) (args : Vec NetExpr Global) → walk_exps noted used (exps_of args.items) ≡ walked used (e.NewArray t args)
array_walked used t args = ap (walk_exps noted used) (sym (exps_hidden args))
