-- Lists of expressions and of arguments.
use Rattle.std.proofs.Common.{◌≡◌, ℕ, ◌≤◌, ◌<◌, ◌-◌, false, List, [], ◌∷◌, ◌++◌, length, get_or, take, drop, refl, sym, ap, ◌∙◌, arith}
use Rattle.std.proofs.lemmas.List.{drop_all, take_all}
use Rattle.bound_tree.specs.declared.expression.BoundArg.{BoundArg}
use Rattle.bound_tree.specs.View.{passed_of}
use Rattle.net_tree.specs.declared.expression.NetExpr.{NetExpr}
use Rattle.net_tree.specs.Tree.{Exps, no_exps, next_exp}
use Rattle.net_tree.specs.View.{exp_of, exps_of}
use Rattle.written_trees.specs.Exprs.{has_none}
use Rattle.written_exprs.specs.Lists.{exps_before}

pub exp_put : (xs : List NetExpr) (a : NetExpr) (more : Exps) → exps_before (xs ++ a ∷ []) more ≡ exps_before xs (next_exp (exp_of a) more)
exp_put [] a more = refl
exp_put (x ∷ xs) a more = ap (next_exp (exp_of x)) (exp_put xs a more)

exps_alone : (xs : List NetExpr) → exps_before xs no_exps ≡ exps_of xs
exps_alone [] = refl
exps_alone (x ∷ xs) = ap (next_exp (exp_of x)) (exps_alone xs)

-- a list that is whole once each of some items was gone over
pub list_end : {X : Type 0} (F : List X → Exps) (items : List X) (n : ℕ) (xs : List NetExpr) (whole : Exps)
    → F [] ≡ no_exps
    → length items ≤ n
    → exps_before xs (F (drop n items)) ≡ whole
    → exps_of xs ≡ whole
list_end F items n xs whole none past h = sym (exps_alone xs) ∙ ap (exps_before xs) (sym none ∙ ap F (sym (drop_all n items past))) ∙ h

pub only_one : {X : Type 0} (xs : List X) (x : X) → 1 ≤ length xs → length xs < 2 → x ≡ get_or xs 0 x → xs ≡ x ∷ []
only_one [] x some few is = absurd (omega (arith, some))
only_one (y ∷ []) x some few is = ap (λ z. z ∷ []) (sym is)
only_one (y ∷ z ∷ zs) x some few is = absurd (omega (arith, few))

pub first_left : {X : Type 0} (xs : List X) (x : X) → 1 ≤ length xs → x ≡ get_or xs 0 x → xs ≡ x ∷ take (length xs - 1) (drop 1 xs)
first_left [] x some is = absurd (omega (arith, some))
first_left (y ∷ ys) x some is = ap (λ z. z ∷ ys) (sym is) ∙ ap (λ zs. x ∷ zs) (sym (take_all (length (y ∷ ys) - 1) ys (omega arith)))

pub some_passed : (args : List BoundArg) → 1 ≤ length args → false ≡ has_none (passed_of args)
some_passed [] h = absurd (omega (arith, h))
some_passed (a ∷ rest) h = refl
