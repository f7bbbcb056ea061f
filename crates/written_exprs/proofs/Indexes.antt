-- Indexes by the lower bounds of their array.
use Rattle.std.proofs.Common.{◌≡◌, ℕ, zero, suc, refl, ap, ◌∙◌}
use Rattle.bound_tree.specs.Tree.{Expr, Exprs, no_exprs, next_expr}
use Rattle.net_tree.specs.Tree as net
use Rattle.written_trees.specs.Exprs.{exp_of, index_at, indexes_of}
use Rattle.written_trees.specs.Names.{Scope}
use Rattle.written_exprs.specs.Indexes.{index_by, indexes_by, lows_of}

index_lowered : (S : Scope) (a : Expr) (d : ℕ) (i : net.Exp) → index_by (lows_of S a) d i ≡ index_at S a d i
index_lowered S a zero i = refl
index_lowered S a (suc zero) i = refl
index_lowered S a (suc (suc d)) i = refl

pub indexes_lowered : (S : Scope) (a : Expr) (d : ℕ) (es : Exprs) → indexes_by S (lows_of S a) d es ≡ indexes_of S a d es
indexes_lowered S a d no_exprs = refl
indexes_lowered S a d (next_expr e rest) =
    ap (λ (i : net.Exp). net.next_exp i (indexes_by S (lows_of S a) (suc d) rest)) (index_lowered S a d (exp_of S e))
    ∙ ap (net.next_exp (index_at S a d (exp_of S e))) (indexes_lowered S a (suc d) rest)
