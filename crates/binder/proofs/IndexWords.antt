-- The words of an expression with an argument list behind it, at the parts as the code holds them.
use Rattle.std.proofs.Common.{◌≡◌, List, ◌++◌, sym, ap, ◌∙◌, append_assoc, Global}
use Rattle.std.specs.Prelude.{Box, Vec}
use Rattle.vb_tree.specs.declared.expression.Arg6.{Arg6}
use Rattle.vb_tree.specs.declared.expression.Expr6.{Expr6}
use Rattle.vb_tree.specs.declared.expression.Expr6.TheVariants as e
use Rattle.vb_tree.specs.View.{args_of, exp_of}
use Rattle.expression_words.specs.declared.lookups.Lookup.{Lookup}
use Rattle.bound_exprs.specs.Resolved.{with_list}
use Rattle.bound_exprs.proofs.SpelledLists.{index_shown}
use Rattle.binder.specs.ImplicitLocals.{Word, words_in, words_in_args}

pub index_words : (r w : Lookup) (x y : Expr6) (of : Box Expr6 Global) (args : Vec Arg6 Global) (zs : List Arg6) (before between after : List Word)
    → between ≡ before ++ words_in w (exp_of y)
    → w ≡ with_list r
    → y ≡ of.value
    → after ≡ between ++ words_in_args (args_of zs)
    → zs ≡ args.items
    → x ≡ e.Index of args
    → after ≡ before ++ words_in r (exp_of x)
index_words r w x y of args zs before between after first lookup held second items is =
    second
    ∙ ap (λ (ws : List Word). ws ++ words_in_args (args_of zs))
    (first ∙ ap (λ (v : Lookup). before ++ words_in v (exp_of y)) lookup ∙ ap (λ (z : Expr6). before ++ words_in (with_list r) (exp_of z)) held)
    ∙ ap (λ (xs : List Arg6). (before ++ words_in (with_list r) (exp_of of.value)) ++ words_in_args (args_of xs)) items
    ∙ append_assoc before (words_in (with_list r) (exp_of of.value)) (words_in_args (args_of args.items))
    ∙ ap (λ (ws : List Word). before ++ ws) (sym (ap (λ (z : Expr6). words_in r (exp_of z)) is ∙ ap (words_in r) (index_shown of args)))
