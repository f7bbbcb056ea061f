-- Which arrays a tree of the code can hold.
use Rattle.std.proofs.Common.{◌≡◌, ℕ, suc, ◌+◌, ◌<◌, true, false, ◌&&◌, ◌⊎◌, inl, inr, List, [], ◌∷◌, length, arith, le-leb}
use Rattle.std.proofs.lemmas.Bool.{and_cases, and_from, and_left, and_right, leb-false, lt-leb}
use Rattle.net_tree.specs.Depth.{depth_type, is_shallow_type, most_nested}
use Rattle.net_tree.specs.Types as ty
use Rattle.net_tree.specs.Types.{TypeName}
use Rattle.net_exprs.specs.Expressions.{with_ranks}
use Rattle.net_exprs.specs.Fitting.{fits_rank, fits_type, holds_type}
use Rattle.net_exprs.proofs.Words.{both_true}

-- a type of too many arrays doesn't fit
pub too_many : (t : TypeName) → most_nested < depth_type t → fits_type t ≡ false
too_many t h = and_left (is_shallow_type t) (holds_type t) (lt-leb (depth_type t) most_nested h)

-- an array doesn't fit where its element type or its rank doesn't
pub unfit_element : (t : TypeName) (r : ℕ) → fits_type t ≡ false → fits_type (ty.array_of t r) ≡ false
unfit_element t r h = go (and_cases (is_shallow_type t) (holds_type t) h)
  where
    go : (is_shallow_type t ≡ false) ⊎ (holds_type t ≡ false) → fits_type (ty.array_of t r) ≡ false
    go (inl p) = let more = leb-false (depth_type t) most_nested p in too_many (ty.array_of t r) (omega (arith, more))
    go (inr p) = and_right (is_shallow_type (ty.array_of t r)) (holds_type t && fits_rank r) (and_left (holds_type t) (fits_rank r) p)

pub unfit_rank : (t : TypeName) (r : ℕ) → fits_rank r ≡ false → fits_type (ty.array_of t r) ≡ false
unfit_rank t r h = and_right (is_shallow_type (ty.array_of t r)) (holds_type t && fits_rank r) (and_right (holds_type t) (fits_rank r) h)

-- one more array fits
pub array_fits : (t : TypeName) (r : ℕ) → fits_type t ≡ true → fits_rank r ≡ true → depth_type t < most_nested → fits_type (ty.array_of t r) ≡ true
array_fits t r h k less =
    let both = both_true (is_shallow_type t) (holds_type t) h in
    and_from (is_shallow_type (ty.array_of t r)) (holds_type t && fits_rank r) (le-leb (suc (depth_type t)) most_nested less) (and_from (holds_type t) (fits_rank r) both.1 k)

-- each rank is an array
pub ranked_depth : (t : TypeName) (ranks : List ℕ) → depth_type (with_ranks t ranks) ≡ length ranks + depth_type t
ranked_depth t [] = omega arith
ranked_depth t (r ∷ ranks) = omega (arith, ranked_depth t ranks)
