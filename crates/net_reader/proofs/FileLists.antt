-- Lists of files: their fronts, and the file behind a front.
use Rattle.std.proofs.Common.{◌≡◌, ℕ, zero, suc, ◌≤◌, ◌<◌, length, arith, List, [], ◌∷◌, ◌++◌, take, drop, refl, ap, Option, Some}
use Rattle.std.specs.Prelude.{slice_get}

module _ {A : Type 0} where
  abbrev pub first_of : List A → Option A
  first_of [] = Option.None
  first_of (x ∷ xs) = Some x

  pub next_is : (k : ℕ) (xs : List A) → slice_get xs k ≡ first_of (drop k xs)
  next_is zero [] = refl
  next_is zero (x ∷ xs) = refl
  next_is (suc k) [] = refl
  next_is (suc k) (x ∷ xs) = next_is k xs

  pub take_more : (k : ℕ) (xs : List A) (x : A) (rest : List A) → drop k xs ≡ x ∷ rest → take (suc k) xs ≡ take k xs ++ x ∷ []
  take_more zero [] x rest h = absurd (cc h)
  take_more zero (y ∷ xs) x rest h = ap (λ (z : A). z ∷ []) (first_same h)
    where
      first_same : {y x : A} {xs rest : List A} → ◌≡◌ {A = List A} (y ∷ xs) (x ∷ rest) → y ≡ x
      first_same h = cc h
  take_more (suc k) [] x rest h = absurd (cc h)
  take_more (suc k) (y ∷ xs) x rest h = ap (λ more. y ∷ more) (take_more k xs x rest h)

  pub drop_more : (k : ℕ) (xs : List A) (x : A) (rest : List A) → drop k xs ≡ x ∷ rest → drop (suc k) xs ≡ rest
  drop_more zero [] x rest h = absurd (cc h)
  drop_more zero (y ∷ xs) x rest h = rest_same h
    where
      rest_same : {y x : A} {xs rest : List A} → ◌≡◌ {A = List A} (y ∷ xs) (x ∷ rest) → xs ≡ rest
      rest_same h = cc h
  drop_more (suc k) [] x rest h = absurd (cc h)
  drop_more (suc k) (y ∷ xs) x rest h = drop_more k xs x rest h

  pub take_all : (k : ℕ) (xs : List A) → drop k xs ≡ [] → take k xs ≡ xs
  take_all zero [] h = refl
  take_all zero (x ∷ xs) h = absurd (cc h)
  take_all (suc k) [] h = refl
  take_all (suc k) (x ∷ xs) h = ap (λ more. x ∷ more) (take_all k xs h)

  pub is_within : (k : ℕ) (xs : List A) (x : A) (rest : List A) → drop k xs ≡ x ∷ rest → k < length xs
  is_within zero [] x rest h = absurd (cc h)
  is_within zero (y ∷ xs) x rest h = omega arith
  is_within (suc k) [] x rest h = absurd (cc h)
  is_within (suc k) (y ∷ xs) x rest h = omega (arith, is_within k xs x rest h)

  pub same_parts : {x y : A} {xs ys : List A} → ◌≡◌ {A = List A} (x ∷ xs) (y ∷ ys) → (x ≡ y) × (xs ≡ ys)
  same_parts h = (cc h, cc h)

  both_same : {x y : A} {xs ys : List A} → x ≡ y → xs ≡ ys → ◌≡◌ {A = List A} (x ∷ xs) (y ∷ ys)
  both_same h k = cc (h, k)

  pub take_less : (k : ℕ) (xs ys : List A) → take (suc k) xs ≡ take (suc k) ys → (take k xs ≡ take k ys) × (slice_get xs k ≡ slice_get ys k)
  take_less zero [] [] h = (refl, refl)
  take_less zero [] (y ∷ ys) h = absurd (cc h)
  take_less zero (x ∷ xs) [] h = absurd (cc h)
  take_less zero (x ∷ xs) (y ∷ ys) h = (refl, ap (λ (z : List A). first_of z) h)
  take_less (suc k) [] [] h = (refl, refl)
  take_less (suc k) [] (y ∷ ys) h = absurd (cc h)
  take_less (suc k) (x ∷ xs) [] h = absurd (cc h)
  take_less (suc k) (x ∷ xs) (y ∷ ys) h =
      let parts = same_parts h in
      let less = take_less k xs ys parts.1 in
      (both_same parts.0 less.0, less.1)

  pub take_fewer : (n m : ℕ) (xs ys : List A) → n ≤ m → take m xs ≡ take m ys → take n xs ≡ take n ys
  take_fewer zero m xs ys less h = refl
  take_fewer (suc n) zero xs ys less h = absurd (omega (arith, less))
  take_fewer (suc n) (suc m) [] [] less h = refl
  take_fewer (suc n) (suc m) [] (y ∷ ys) less h = absurd (cc h)
  take_fewer (suc n) (suc m) (x ∷ xs) [] less h = absurd (cc h)
  take_fewer (suc n) (suc m) (x ∷ xs) (y ∷ ys) less h =
      let parts = same_parts h in
      both_same parts.0 (take_fewer n m xs ys (omega (arith, less)) parts.1)

  -- no more are the same than there are
  pub take_within : (k : ℕ) (xs ys : List A) → take k xs ≡ take k ys → k ≤ length xs → k ≤ length ys
  take_within zero xs ys h within = omega arith
  take_within (suc k) [] ys h within = absurd (omega (arith, within))
  take_within (suc k) (x ∷ xs) [] h within = absurd (cc h)
  take_within (suc k) (x ∷ xs) (y ∷ ys) h within = omega (arith, take_within k xs ys (same_parts h).1 (omega (arith, within)))
