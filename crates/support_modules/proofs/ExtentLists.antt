-- Extents as a list of expressions.
use Rattle.std.proofs.Common.{◌≡◌, ℕ, zero, suc, List, [], ◌∷◌, map, replicate, refl, ap, ◌∙◌}
use Rattle.std.specs.Prelude.{ℤ}
use Rattle.net_tree.specs.declared.expression.NetExpr.{NetExpr}
use Rattle.net_tree.specs.Tree as net
use Rattle.net_tree.specs.View.{exp_of, exps_of}
use Rattle.written_trees.specs.Lines.{empty_extents}
use Rattle.written_trees.specs.Prologues.{fixed_extents}
use Rattle.support_modules.specs.Extents.{extent_between, none}

abbrev exps : List net.Exp → net.Exps
exps [] = net.no_exps
exps (e ∷ es) = net.next_exp e (exps es)

shown : (es : List NetExpr) → exps_of es ≡ exps (map exp_of es)
shown [] = refl
shown (e ∷ es) = ap (net.next_exp (exp_of e)) (shown es)

fixed : (bs : List (ℤ × ℤ)) → exps (map extent_between bs) ≡ fixed_extents bs
fixed [] = refl
fixed (b ∷ bs) = ap (net.next_exp (extent_between b)) (fixed bs)

empty : (rank : ℕ) → exps (replicate rank none) ≡ empty_extents rank
empty zero = refl
empty (suc rank) = ap (net.next_exp none) (empty rank)

pub fixed_listed : (es : List NetExpr) (bs : List (ℤ × ℤ)) → map exp_of es ≡ map extent_between bs → exps_of es ≡ fixed_extents bs
fixed_listed es bs h = shown es ∙ ap exps h ∙ fixed bs

pub empty_listed : (es : List NetExpr) (rank : ℕ) → map exp_of es ≡ replicate rank none → exps_of es ≡ empty_extents rank
empty_listed es rank h = shown es ∙ ap exps h ∙ empty rank
