-- An expression of the code with an argument list behind it means what its plain tree means.
use Rattle.std.proofs.Common.{◌≡◌, List, refl, sym, ap, ◌∙◌, Global}
use Rattle.std.specs.Prelude.{Box, Vec}
use Rattle.vb_tree.specs.declared.expression.Arg6.{Arg6, None', Some'}
use Rattle.vb_tree.specs.declared.expression.Expr6.{Expr6, Row_of-Arg6, end_of-Arg6, more_of-Arg6, items-the_row-Arg6, items_hidden-the_row-Arg6-0}
use Rattle.vb_tree.specs.declared.expression.Expr6.TheBlock as b
use Rattle.vb_tree.specs.declared.expression.Expr6.TheVariants as e
use Rattle.vb_tree.specs.Tree.{given, index, next_arg, omitted}
use Rattle.vb_tree.specs.View.{args_in_row, args_of, exp_of}
use Rattle.expression_words.specs.declared.lookups.Lookup.{Lookup}
use Rattle.expression_words.specs.Meanings.{Scope, Meaning, list_meaning}
use Rattle.expression_words.specs.Passing.{Supplied}
use Rattle.bound_exprs.specs.Resolved.{meaning, supplied, with_list}

args_listed : {n : _} (k : Row_of-Arg6 n) → args_in_row k ≡ args_of (items-the_row-Arg6 n k)
args_listed end_of-Arg6 = refl
args_listed (more_of-Arg6 name marked None' rest) = ap (next_arg name marked omitted) (args_listed rest)
args_listed (more_of-Arg6 name marked (Some' x) rest) = ap (next_arg name marked (given (exp_of x))) (args_listed rest)

pub index_shown : (of : Box Expr6 Global) (args : Vec Arg6 Global) → exp_of (e.Index of args) ≡ index (exp_of of.value) (args_of args.items)
index_shown of args = ap (index (exp_of of.value)) (args_listed (b.hidden-the_row-Arg6-0 args) ∙ ap args_of (items_hidden-the_row-Arg6-0 args))

-- what is made of the parts, at the parts as the code holds them
pub index_means : (S : Scope) (r w : Lookup) (x y : Expr6) (of : Box Expr6 Global) (args : Vec Arg6 Global) (zs : List Arg6) (m behind : Meaning) (list : List Supplied)
    → m ≡ list_meaning S.declarations behind list
    → behind ≡ meaning S w (exp_of y)
    → w ≡ with_list r
    → y ≡ of.value
    → list ≡ supplied S (args_of zs)
    → zs ≡ args.items
    → x ≡ e.Index of args
    → m ≡ meaning S r (exp_of x)
index_means S r w x y of args zs m behind list whole first lookup held second items is =
    whole
    ∙ ap (λ (k : Meaning). list_meaning S.declarations k list)
    (first ∙ ap (λ (v : Lookup). meaning S v (exp_of y)) lookup ∙ ap (λ (z : Expr6). meaning S (with_list r) (exp_of z)) held)
    ∙ ap (list_meaning S.declarations (meaning S (with_list r) (exp_of of.value))) (second ∙ ap (λ (ws : List Arg6). supplied S (args_of ws)) items)
    ∙ sym (ap (λ (z : Expr6). meaning S r (exp_of z)) is ∙ ap (meaning S r) (index_shown of args))
