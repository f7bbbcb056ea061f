-- Texts by their runs of units in quotes.
use Rattle.std.proofs.Common.{◌≡◌, ◌<◌, ◌≤◌, ℕ, Bool, true, false, List, [], ◌∷◌, length, take, drop, get_or, drop-cons, add-one, ◌+◌, ◌-◌, length-drop, refl, ap, arith}
use Rattle.std.proofs.lemmas.List.{take_all}
use Rattle.written_trees.specs.Literals.{is_plain, in_front, pieces_of}

-- the first run, and what is left from it on
pub first_is : (units : List ℕ) → take (length (pieces_of units).first) units ≡ (pieces_of units).first
first_is [] = refl
first_is (c ∷ units) = by_test (is_plain c) refl (first_is units)
  where
    by_test : (p : Bool) → is_plain c ≡ p → take (length (pieces_of units).first) units ≡ (pieces_of units).first → take (length (in_front c (pieces_of units)).first) (c ∷ units) ≡ (in_front c (pieces_of units)).first
    by_test true e more = rw e (ap (λ xs. c ∷ xs) more)
    by_test false e more = rw e refl

pub left_is : (units : List ℕ) → pieces_of (drop (length (pieces_of units).first) units) ≡ record { first = []; more = (pieces_of units).more }
left_is [] = refl
left_is (c ∷ units) = by_test (is_plain c) refl (left_is units)
  where
    by_test : (p : Bool) → is_plain c ≡ p → pieces_of (drop (length (pieces_of units).first) units) ≡ record { first = []; more = (pieces_of units).more } → pieces_of (drop (length (in_front c (pieces_of units)).first) (c ∷ units)) ≡ record { first = []; more = (in_front c (pieces_of units)).more }
    by_test true e more = rw e more
    by_test false e more = simp e

pub run_within : (units : List ℕ) → length (pieces_of units).first ≤ length units
run_within [] = omega arith
run_within (c ∷ units) = by_test (is_plain c) refl (run_within units)
  where
    by_test : (p : Bool) → is_plain c ≡ p → length (pieces_of units).first ≤ length units → length (in_front c (pieces_of units)).first ≤ length (c ∷ units)
    by_test true e more = rw e (omega arith)
    by_test false e more = rw e (omega arith)

-- from one place to the next
pub run_goes_on : (units : List ℕ) (at : ℕ) (d : ℕ) → at < length units → is_plain (get_or units at d) ≡ true → length (pieces_of (drop at units)).first ≡ 1 + length (pieces_of (drop (at + 1) units)).first
run_goes_on units at d within e = rw (drop-cons units at d within, e, add-one) (omega arith)

pub run_ends : (units : List ℕ) (at : ℕ) (d : ℕ) → at < length units → is_plain (get_or units at d) ≡ false → length (pieces_of (drop at units)).first ≡ 0
run_ends units at d within e = rw (drop-cons units at d within, e) refl

-- parts of lists as the code shows them
pub rest_from : (xs : List ℕ) (n : ℕ) → take (length xs - n) (drop n xs) ≡ drop n xs
rest_from xs n = take_all (length xs - n) (drop n xs) (omega (arith, length-drop n xs))

pub first_and_rest : (xs : List ℕ) (d : ℕ) → 0 < length xs → xs ≡ get_or xs 0 d ∷ take (length xs - 1) (drop 1 xs)
first_and_rest [] d h = absurd (omega arith)
first_and_rest (x ∷ xs) d h = rw (rest_from (x ∷ xs) 1) refl
