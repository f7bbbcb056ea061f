-- The stages of an expression as the code builds them.
use Rattle.std.proofs.Common.{◌≡◌, ℕ, zero, suc, ◌+◌, ◌-◌, ◌<◌, ◌≤◌, false, get_or, List, [], ◌∷◌, ◌++◌, length, take, reverse, Option, Some, refl, sym, ap, ◌∙◌, arith}
use Rattle.std.proofs.lemmas.List.{reverse-append, length-reverse}
use Rattle.net_tree.specs.Depth.{depth_type, most_nested}
use Rattle.net_tree.specs.Types as ty
use Rattle.net_tree.specs.Types.{TypeName}
use Rattle.net_tree.specs.Tree.{Exps, call_of, new_array, no_exps}
use Rattle.net_exprs.specs.Expressions.{Stage, array_made, object_of, ranked, whole, with_ranks}
use Rattle.net_exprs.specs.Fitting.{fits_rank, fits_type}
use Rattle.net_exprs.specs.Stages.{array_stage, object_calls}
use Rattle.net_exprs.proofs.ArrayFits.{ranked_depth, too_many, unfit_element, unfit_rank}

-- how often an object is called depends on how many ranks there are
object_counts : (t : TypeName) (ranks : List ℕ) → object_of t ranks ≡ object_calls t (length ranks - 1)
object_counts t [] = refl
object_counts t (r ∷ []) = refl
object_counts t (r ∷ q ∷ ranks) = ap (λ e. call_of e no_exps) (object_counts t (q ∷ ranks)) ∙ ap (object_calls t) fewer
  where
    fewer : suc (length (q ∷ ranks) - 1) ≡ length (r ∷ q ∷ ranks) - 1
    fewer = omega arith

pub object_is : (t : TypeName) (ranks : List ℕ) → object_calls t (length ranks - 1) ≡ object_of t (reverse ranks)
object_is t ranks = ap (λ n. object_calls t (n - 1)) (sym (length-reverse ranks)) ∙ sym (object_counts t (reverse ranks))

-- ---- ranks

with_last : (t : TypeName) (ranks : List ℕ) (r : ℕ) → with_ranks t (ranks ++ r ∷ []) ≡ with_ranks (ty.array_of t r) ranks
with_last t [] r = refl
with_last t (q ∷ ranks) r = ap (λ u. ty.array_of u q) (with_last t ranks r)

with_first_rank : (t : TypeName) (r : ℕ) (ranks : List ℕ) → with_ranks t (reverse (r ∷ ranks)) ≡ with_ranks (ty.array_of t r) (reverse ranks)
with_first_rank t r ranks = ap (with_ranks t) (reverse-append (r ∷ []) ranks) ∙ with_last t (reverse ranks) r

pub more_misfit : (t : TypeName) (ranks : List ℕ) → fits_type t ≡ false → fits_type (with_ranks t ranks) ≡ false
more_misfit t [] h = h
more_misfit t (r ∷ ranks) h = unfit_element (with_ranks t ranks) r (more_misfit t ranks h)

pub ranks_misfit : (t : TypeName) (ranks : List ℕ) (i : ℕ) → i < length ranks → fits_rank (get_or ranks i 0) ≡ false → fits_type (with_ranks t (reverse ranks)) ≡ false
ranks_misfit t [] i less h = absurd (omega arith)
ranks_misfit t (r ∷ ranks) zero less h = rw (with_first_rank t r ranks) (more_misfit (ty.array_of t r) (reverse ranks) (unfit_rank t r h))
ranks_misfit t (r ∷ ranks) (suc i) less h = rw (with_first_rank t r ranks) (ranks_misfit (ty.array_of t r) ranks i (omega arith) h)

-- more ranks than arrays can be in each other
pub deep_misfit : (t : TypeName) (ranks : List ℕ) → most_nested < length ranks + depth_type t → fits_type (with_ranks t (reverse ranks)) ≡ false
deep_misfit t ranks h = too_many (with_ranks t (reverse ranks)) (omega (arith, h, ranked_depth t (reverse ranks), length-reverse ranks))

-- ---- arrays

record EndsWith (xs : List ℕ) : Type 0 where
  last : ℕ
  is : xs ≡ take (length xs - 1) xs ++ last ∷ []

ends_with : (x : ℕ) (xs : List ℕ) → EndsWith (x ∷ xs)
ends_with x [] = record { last = x; is = refl }
ends_with x (y ∷ ys) =
    let more = ends_with y ys in
    let fewer : suc (length (y ∷ ys) - 1) ≡ length (x ∷ y ∷ ys) - 1 = omega arith in
    record { last = more.last; is = ap (λ zs. x ∷ zs) more.is ∙ ap (λ n. take n (x ∷ y ∷ ys) ++ more.last ∷ []) fewer }

-- the last rank of the code's list is the one that the array has no room for
pub last_left : (t : TypeName) (ranks seen : List ℕ) (bounds : Exps) (rest : List ℕ) → seen ≡ ranks → 1 ≤ length seen → bounds ≡ no_exps
    → array_stage rest (array_made (ranked t (reverse ranks))) ≡ Some (whole (new_array (with_ranks t (reverse (take (length seen - 1) seen))) bounds), rest)
last_left t ranks seen bounds rest same some none = ap (λ rs. array_stage rest (array_made (ranked t (reverse rs)))) (sym same) ∙ go seen some ∙ ap (made seen) (sym none)
  where
    made : List ℕ → Exps → Option (Stage × List ℕ)
    made rs es = Some (whole (new_array (with_ranks t (reverse (take (length rs - 1) rs))) es), rest)

    go : (rs : List ℕ) → 1 ≤ length rs → array_stage rest (array_made (ranked t (reverse rs))) ≡ Some (whole (new_array (with_ranks t (reverse (take (length rs - 1) rs))) no_exps), rest)
    go [] h = absurd (omega arith)
    go (r ∷ rs) h =
        let e = ends_with r rs in
        let front = take (length (r ∷ rs) - 1) (r ∷ rs) in
        let turned : reverse (r ∷ rs) ≡ e.last ∷ reverse front = ap reverse e.is ∙ reverse-append front (e.last ∷ []) in
        ap (λ xs. array_stage rest (array_made (ranked t xs))) turned
