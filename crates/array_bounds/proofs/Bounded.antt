-- Bounds and the expressions that they take.
use Rattle.std.proofs.Common.{◌≡◌, ℕ, ◌+◌, true, false, cond, List, [], ◌∷◌, refl, ap, sym, ◌∙◌, drop, map, length, ◌<◌, arith}
use Rattle.std.specs.Prelude.{Option, Some, None, is_some, option_map}
use Rattle.std.proofs.lemmas.List.{drop-drop}
use Rattle.vb_tree.specs.declared.form_parts.Bounds6.{Bounds6}
use Rattle.vb_tree.specs.Tree.{Bounds, Exp, ReDimItem}
use Rattle.vb_tree.specs.View.{bounds_of, exp_of}
use Rattle.bound_tree.specs.Tree.{Expr}
use Rattle.bound_facts.specs.Parts.{Extent, extents, resizes, total}
use Rattle.array_bounds.specs.Views.{extents_by}

pub extents_none : (bs : List Bounds) → extents bs [] ≡ []
extents_none [] = refl
extents_none (b ∷ bs) = refl

pub resizes_none : (items : List ReDimItem) → resizes items [] ≡ []
resizes_none [] = refl
resizes_none (i ∷ items) = refl

extents_of_bounds : {X : Type 0} (f : X → Exp) (o : Option X) (u : Exp) (bs : List Bounds) (es : List Expr)
    → extents (record { lower = option_map f o; upper = u } ∷ bs) es ≡ extents_by (is_some o) bs es
extents_of_bounds f None u bs [] = refl
extents_of_bounds f None u bs (e ∷ []) = ap (λ (xs : List Extent). (None, e) ∷ xs) (sym (extents_none bs))
extents_of_bounds f None u bs (e ∷ g ∷ es) = refl
extents_of_bounds f (Some x) u bs [] = refl
extents_of_bounds f (Some x) u bs (e ∷ []) = refl
extents_of_bounds f (Some x) u bs (e ∷ g ∷ es) = refl

pub extents_is : (b : Bounds6) (bs : List Bounds) (es : List Expr) → extents (bounds_of b ∷ bs) es ≡ extents_by (is_some b.lower) bs es
extents_is b bs es = extents_of_bounds exp_of b.lower (exp_of b.upper) bs es

pub two_behind : (es : List Expr) → drop 1 (drop 1 es) ≡ drop 2 es
two_behind es = drop-drop 1 1 es

count_is : {X : Type 0} (f : X → Exp) (o : Option X) → ◌≡◌ {A = ℕ} (cond (is_some (option_map f o)) 2 1) (cond (is_some o) 2 1)
count_is f None = refl
count_is f (Some x) = refl

pub total_behind : (b : Bounds6) (bs : List Bounds) (es : List Expr) → drop (total bs) (drop (cond (is_some b.lower) 2 1) es) ≡ drop (total (bounds_of b ∷ bs)) es
total_behind b bs es = drop-drop (total bs) (cond (is_some b.lower) 2 1) es ∙ ap (λ n. drop (n + total bs) es) (sym (count_is exp_of b.lower))

-- expressions that are too few
pub both_of_few : {X : Type 0} (f : X → Expr) (bs : List Bounds) (xs : List X) → length xs < 2 → extents_by true bs (map f xs) ≡ []
both_of_few f bs [] h = refl
both_of_few f bs (x ∷ []) h = refl
both_of_few f bs (x ∷ y ∷ xs) h = absurd (omega arith)

pub upper_of_few : {X : Type 0} (f : X → Expr) (bs : List Bounds) (xs : List X) → length xs < 1 → extents_by false bs (map f xs) ≡ []
upper_of_few f bs [] h = refl
upper_of_few f bs (x ∷ xs) h = absurd (omega arith)

pub resizes_of_few : {X : Type 0} (f : X → Expr) (items : List ReDimItem) (xs : List X) → length xs < 1 → resizes items (map f xs) ≡ []
resizes_of_few f items [] h = resizes_none items
resizes_of_few f items (x ∷ xs) h = absurd (omega arith)
