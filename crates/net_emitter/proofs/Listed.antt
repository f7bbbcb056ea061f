-- The texts of expressions in a list.
use Rattle.std.proofs.Common.{◌≡◌, ℕ, List, ◌++◌, map, codes, sym, ap, Global}
use Rattle.std.specs.Prelude.{Vec, Box}
use Rattle.net_tree.specs.declared.expression.NetExpr.{NetExpr}
use Rattle.net_tree.specs.declared.expression.NetExpr.TheVariants as e
use Rattle.net_tree.specs.declared.expression.NetType.{NetType}
use Rattle.net_tree.specs.View.{exp_of, exps_of, type_name_of}
use Rattle.net_tree.specs.Spelling.{in_parentheses}
use Rattle.net_tree.specs.Expressions.{exp_text, type_text, arguments_text}
use Rattle.net_tree.proofs.Views.{texts_listed, exps_hidden}

abbrev pub text_at : NetExpr → List ℕ
text_at a = exp_text (exp_of a)

pub arguments_listed : (items : List NetExpr) → in_parentheses (map text_at items) ≡ arguments_text (exps_of items)
arguments_listed items = ap in_parentheses (sym (texts_listed items))

-- what is written of each expression that holds a list
pub call_text : (callee : Box NetExpr Global) (args : Vec NetExpr Global) → exp_text (exp_of (e.Call callee args)) ≡ exp_text (exp_of callee.value) ++ arguments_text (exps_of args.items)
call_text callee args = ap (λ es. exp_text (exp_of callee.value) ++ arguments_text es) (exps_hidden args)

pub object_text : (t : NetType) (args : Vec NetExpr Global) → exp_text (exp_of (e.NewObject t args)) ≡ (codes "New " ++ type_text (type_name_of t)) ++ arguments_text (exps_of args.items)
object_text t args = ap (λ es. codes "New " ++ type_text (type_name_of t) ++ arguments_text es) (exps_hidden args)

pub array_text : (t : NetType) (args : Vec NetExpr Global) → exp_text (exp_of (e.NewArray t args)) ≡ (codes "New " ++ type_text (type_name_of t)) ++ arguments_text (exps_of args.items) ++ codes " {}"
array_text t args = ap (λ es. codes "New " ++ type_text (type_name_of t) ++ arguments_text es ++ codes " {}") (exps_hidden args)
