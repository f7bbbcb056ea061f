-- Argument lists of the source.
use Rattle.std.proofs.Common.{◌≡◌, List, refl, sym, ap, ◌∙◌, Global}
use Rattle.std.specs.Prelude.{Box, Vec}
use Rattle.vb_tree.specs.declared.expression.Arg6.{Arg6, None', Some'}
use Rattle.vb_tree.specs.declared.expression.Expr6.{Expr6, Row_of-Arg6, end_of-Arg6, more_of-Arg6, items-the_row-Arg6, items_hidden-the_row-Arg6-0}
use Rattle.vb_tree.specs.declared.expression.Expr6.TheBlock as b
use Rattle.vb_tree.specs.declared.expression.Expr6.TheVariants as e
use Rattle.vb_tree.specs.Tree.{next_arg, omitted, given, index}
use Rattle.vb_tree.specs.View.{args_in_row, args_of, exp_of}
use Rattle.net_tree.specs.Tree as net
use Rattle.written_trees.specs.LooseExprs.{loose_exp, loose_args}

row_listed : {n : _} (k : Row_of-Arg6 n) → args_in_row k ≡ args_of (items-the_row-Arg6 n k)
row_listed end_of-Arg6 = refl
row_listed (more_of-Arg6 name marked None' rest) = ap (next_arg name marked omitted) (row_listed rest)
row_listed (more_of-Arg6 name marked (Some' t) rest) = ap (next_arg name marked (given (exp_of t))) (row_listed rest)

index_shown : (of : Box Expr6 Global) (args : Vec Arg6 Global) → exp_of (e.Index of args) ≡ index (exp_of of.value) (args_of args.items)
index_shown of args = ap (index (exp_of of.value)) (row_listed (b.hidden-the_row-Arg6-0 args) ∙ ap args_of (items_hidden-the_row-Arg6-0 args))

-- what is written for an expression with an argument list, part by part
pub index_written : (of : Box Expr6 Global) (args : Vec Arg6 Global) (x y : Expr6) (made a : net.Exp) (list : net.Exps) (ys : List Arg6)
    → made ≡ net.call_of a list
    → a ≡ loose_exp (exp_of y)
    → y ≡ of.value
    → list ≡ loose_args (args_of ys)
    → ys ≡ args.items
    → x ≡ e.Index of args
    → made ≡ loose_exp (exp_of x)
index_written of args x y made a list ys whole first held rest same is =
    whole
    ∙ ap (λ (b : net.Exp). net.call_of b list) (first ∙ ap (λ (z : Expr6). loose_exp (exp_of z)) held)
    ∙ ap (net.call_of (loose_exp (exp_of of.value))) (rest ∙ ap (λ (zs : List Arg6). loose_args (args_of zs)) same)
    ∙ sym (ap (λ (z : Expr6). loose_exp (exp_of z)) is ∙ ap loose_exp (index_shown of args))
