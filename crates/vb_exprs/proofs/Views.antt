-- The arguments of a tree, as a list.
use Rattle.std.proofs.Common.{◌≡◌, refl, ap, ◌∙◌, Global}
use Rattle.std.specs.Prelude.{Vec}
use Rattle.vb_tree.specs.declared.expression.Expr6.{Row_of-Arg6, end_of-Arg6, more_of-Arg6, items-the_row-Arg6, items_hidden-the_row-Arg6-0}
use Rattle.vb_tree.specs.declared.expression.Expr6.TheBlock as e
use Rattle.vb_tree.specs.declared.expression.Arg6.{Arg6, None', Some'}
use Rattle.vb_tree.specs.Tree.{next_arg, omitted, given}
use Rattle.vb_tree.specs.View.{exp_of, args_in_row, args_of}

row_listed : {n : _} (k : Row_of-Arg6 n) → args_in_row k ≡ args_of (items-the_row-Arg6 n k)
row_listed end_of-Arg6 = refl
row_listed (more_of-Arg6 name marked None' rest) = ap (next_arg name marked omitted) (row_listed rest)
row_listed (more_of-Arg6 name marked (Some' t) rest) = ap (next_arg name marked (given (exp_of t))) (row_listed rest)

pub args_in_row-items : (v : Vec Arg6 Global) → args_in_row (e.hidden-the_row-Arg6-0 v) ≡ args_of v.items
args_in_row-items v = row_listed (e.hidden-the_row-Arg6-0 v) ∙ ap args_of (items_hidden-the_row-Arg6-0 v)
