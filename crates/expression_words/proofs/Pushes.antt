-- Lists of expressions and of arguments to which one more is put.
use Rattle.std.proofs.Common.{◌≡◌, List, [], ◌∷◌, ◌++◌, refl, ap}
use Rattle.bound_tree.specs.declared.expression.BoundArg.{BoundArg}
use Rattle.bound_tree.specs.declared.expression.BoundExpr.{BoundExpr}
use Rattle.bound_tree.specs.Tree.{Exprs, no_exprs, next_expr, Passed, no_passed, next_passed}
use Rattle.bound_tree.specs.View.{argument_of, expr_of, exprs_of, passed_of}
use Rattle.expression_words.specs.View.{exprs_before, passed_before}

pub expr_put : (xs : List BoundExpr) (e : BoundExpr) (more : Exprs) → exprs_before (xs ++ e ∷ []) more ≡ exprs_before xs (next_expr (expr_of e) more)
expr_put [] e more = refl
expr_put (x ∷ xs) e more = ap (next_expr (expr_of x)) (expr_put xs e more)

pub exprs_alone : (xs : List BoundExpr) → exprs_before xs no_exprs ≡ exprs_of xs
exprs_alone [] = refl
exprs_alone (x ∷ xs) = ap (next_expr (expr_of x)) (exprs_alone xs)

pub argument_put : (xs : List BoundArg) (a : BoundArg) (more : Passed) → passed_before (xs ++ a ∷ []) more ≡ passed_before xs (next_passed (argument_of a) more)
argument_put [] a more = refl
argument_put (x ∷ xs) a more = ap (next_passed (argument_of x)) (argument_put xs a more)

pub passed_alone : (xs : List BoundArg) → passed_before xs no_passed ≡ passed_of xs
passed_alone [] = refl
passed_alone (x ∷ xs) = ap (next_passed (argument_of x)) (passed_alone xs)
