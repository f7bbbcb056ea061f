-- Argument lists of the code that are spelled one argument after the other.
use Rattle.std.proofs.Common.{◌≡◌, List, [], ◌∷◌, map, refl, sym, ap, ◌∙◌, Global}
use Rattle.std.specs.Prelude.{Box, Vec}
use Rattle.vb_tree.specs.declared.expression.Arg6.{Arg6, None', Some'}
use Rattle.vb_tree.specs.declared.expression.Expr6.{Expr6, Row_of-Arg6, end_of-Arg6, more_of-Arg6, items-the_row-Arg6, items_hidden-the_row-Arg6-0}
use Rattle.vb_tree.specs.declared.expression.Expr6.TheBlock as b
use Rattle.vb_tree.specs.declared.expression.Expr6.TheVariants as e
use Rattle.vb_tree.specs.Tree.{Args, Exp, no_args, next_arg, omitted, given, index}
use Rattle.vb_tree.specs.View.{args_in_row, args_of, exp_of}
use Rattle.expression_words.specs.declared.lookups.Lookup.{Lookup}
use Rattle.expression_words.specs.Meanings.{Scope}
use Rattle.bound_exprs.specs.Resolved.{with_list}
use Rattle.bound_exprs.specs.Spelled.{spelled, spelled_args}
use Rattle.bound_exprs.specs.SpelledView.{Arg, arg_of, spelled_arg}

row_listed : {n : _} (k : Row_of-Arg6 n) → args_in_row k ≡ args_of (items-the_row-Arg6 n k)
row_listed end_of-Arg6 = refl
row_listed (more_of-Arg6 name marked None' rest) = ap (next_arg name marked omitted) (row_listed rest)
row_listed (more_of-Arg6 name marked (Some' t) rest) = ap (next_arg name marked (given (exp_of t))) (row_listed rest)

-- an expression with an argument list behind it
pub index_shown : (of : Box Expr6 Global) (args : Vec Arg6 Global) → exp_of (e.Index of args) ≡ index (exp_of of.value) (args_of args.items)
index_shown of args = ap (index (exp_of of.value)) (row_listed (b.hidden-the_row-Arg6-0 args) ∙ ap args_of (items_hidden-the_row-Arg6-0 args))

abbrev args_from : List Arg → Args
args_from [] = no_args
args_from (a ∷ rest) = next_arg a.name a.marked a.value (args_from rest)

by_parts : (xs : List Arg6) → args_of xs ≡ args_from (map arg_of xs)
by_parts [] = refl
by_parts (a ∷ rest) = ap (next_arg (arg_of a).name (arg_of a).marked (arg_of a).value) (by_parts rest)

spelled_by_parts : (S : Scope) (xs : List Arg6) → spelled_args S (args_of xs) ≡ args_from (map (spelled_arg S) (map arg_of xs))
spelled_by_parts S [] = refl
spelled_by_parts S (a ∷ rest) = ap (next_arg (arg_of a).name (arg_of a).marked (spelled_arg S (arg_of a)).value) (spelled_by_parts S rest)

pub args_spelled : (S : Scope) (xs ys : List Arg6) → map arg_of xs ≡ map (spelled_arg S) (map arg_of ys) → args_of xs ≡ spelled_args S (args_of ys)
args_spelled S xs ys same = by_parts xs ∙ ap args_from same ∙ sym (spelled_by_parts S ys)

pub index_spelled : (S : Scope) (r : Lookup) (x : Expr6) (of : Box Expr6 Global) (args : Vec Arg6 Global)
    → x ≡ e.Index of args → spelled S r (exp_of x) ≡ index (spelled S (with_list r) (exp_of of.value)) (spelled_args S (args_of args.items))
index_spelled S r x of args is = ap (λ (y : Expr6). spelled S r (exp_of y)) is ∙ ap (spelled S r) (index_shown of args)

-- what is made of an argument list behind an expression, part by part
pub index_joined : (S : Scope) (r w : Lookup) (x y : Expr6) (of : Box Expr6 Global) (args : Vec Arg6 Global) (made part : Expr6) (xs ys : List Arg6)
    → exp_of made ≡ index (exp_of part) (args_of xs)
    → exp_of part ≡ spelled S w (exp_of y)
    → y ≡ of.value
    → map arg_of xs ≡ map (spelled_arg S) (map arg_of ys)
    → ys ≡ args.items
    → w ≡ with_list r
    → x ≡ e.Index of args
    → exp_of made ≡ spelled S r (exp_of x)
index_joined S r w x y of args made part xs ys whole first held list same lookup is =
    whole
    ∙ ap (λ (z : Exp). index z (args_of xs)) (first ∙ ap (λ (z : Expr6). spelled S w (exp_of z)) held ∙ ap (λ (v : Lookup). spelled S v (exp_of of.value)) lookup)
    ∙ ap (index (spelled S (with_list r) (exp_of of.value))) (args_spelled S xs ys list ∙ ap (λ (zs : List Arg6). spelled_args S (args_of zs)) same)
    ∙ sym (index_spelled S r x of args is)
