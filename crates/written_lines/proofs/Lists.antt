-- Lists of expressions, of which one more is written at a time.
use Rattle.std.proofs.Common.{◌≡◌, ℕ, zero, suc, ◌+◌, add-one, negsuc, List, [], ◌∷◌, ◌++◌, map, drop, refl, sym, ap, ◌∙◌}
use Rattle.std.specs.Prelude.{Option}
use Rattle.array_bounds.specs.declared.resizes.ExtentRef.{ExtentRef}
use Rattle.array_bounds.specs.Views.{extent_of}
use Rattle.net_tree.specs.declared.expression.NetExpr.{NetExpr}
use Rattle.net_tree.specs.Tree.{Exp, Exps, no_exps, next_exp}
use Rattle.net_tree.specs.View.{exp_of, exps_of}
use Rattle.written_trees.specs.Lines.{empty_extents, extent, extent_exp, extents_exps}
use Rattle.written_trees.specs.Names.{Scope}

-- expressions with others behind them
abbrev pub with_behind : List NetExpr → Exps → Exps
with_behind [] more = more
with_behind (a ∷ list) more = next_exp (exp_of a) (with_behind list more)

pub all_listed : (list : List NetExpr) → with_behind list no_exps ≡ exps_of list
all_listed [] = refl
all_listed (a ∷ list) = ap (next_exp (exp_of a)) (all_listed list)

pub one_behind : (list : List NetExpr) (a : NetExpr) (more : Exps) → with_behind (list ++ a ∷ []) more ≡ with_behind list (next_exp (exp_of a) more)
one_behind [] a more = refl
one_behind (b ∷ list) a more = ap (next_exp (exp_of b)) (one_behind list a more)

-- the next extent of a ReDim
pub extent_behind : (S : Scope) (a : Option ℕ) (xs : List ExtentRef) (d : ℕ) (x : ExtentRef) (list : List NetExpr) (e : NetExpr)
    → drop d xs ≡ x ∷ drop (d + 1) xs → exp_of e ≡ extent_exp S a d (extent_of x)
    → with_behind (list ++ e ∷ []) (extents_exps S a (d + 1) (map extent_of (drop (d + 1) xs))) ≡ with_behind list (extents_exps S a d (map extent_of (drop d xs)))
extent_behind S a xs d x list e cut is =
    one_behind list e (extents_exps S a (d + 1) (map extent_of (drop (d + 1) xs)))
    ∙ ap (λ h. with_behind list (next_exp h (extents_exps S a (d + 1) (map extent_of (drop (d + 1) xs))))) is
    ∙ ap (λ n. with_behind list (next_exp (extent_exp S a d (extent_of x)) (extents_exps S a n (map extent_of (drop (d + 1) xs))))) (add-one d)
    ∙ ap (λ ys. with_behind list (extents_exps S a d (map extent_of ys))) (sym cut)

-- an expression behind others
abbrev last_exp : Exps → Exp → Exps
last_exp no_exps e = next_exp e no_exps
last_exp (next_exp a more) e = next_exp a (last_exp more e)

one_listed : (list : List NetExpr) (a : NetExpr) → exps_of (list ++ a ∷ []) ≡ last_exp (exps_of list) (exp_of a)
one_listed [] a = refl
one_listed (b ∷ list) a = ap (next_exp (exp_of b)) (one_listed list a)

one_empty : (k : ℕ) → last_exp (empty_extents k) (extent (negsuc 0)) ≡ empty_extents (suc k)
one_empty zero = refl
one_empty (suc k) = ap (next_exp (extent (negsuc 0))) (one_empty k)

pub one_more_empty : (list : List NetExpr) (a : NetExpr) (k : ℕ)
    → exps_of list ≡ empty_extents k → exp_of a ≡ extent (negsuc 0) → exps_of (list ++ a ∷ []) ≡ empty_extents (suc k)
one_more_empty list a k so_far is = one_listed list a ∙ ap (λ es. last_exp es (exp_of a)) so_far ∙ ap (last_exp (empty_extents k)) is ∙ one_empty k
