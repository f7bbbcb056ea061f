-- What holds of each item of a list, and of joined, mapped and numbered ones.
use Rattle.std.proofs.Common.{ℕ, zero, suc, ◌+◌, List, [], ◌∷◌, ◌++◌, map, get_or, subst, IfSome, slice_get, slice_set}
use Rattle.std.proofs.lemmas.List.{get_or_default}
use Rattle.std.proofs.lemmas.List.Elements.{All-from_recursion, All-set, recursion_from_All}
use Rattle.std.specs.List.{All, AllByRecursion as Each, Contains, flat_map}
use Rattle.declarations.specs.Numbered.{numbered}

module _ {X : Type 0} (P : X → Type 0) where
  pub each_append : (xs ys : List X) → Each P xs → Each P ys → Each P (xs ++ ys)
  each_append [] ys h k = k
  each_append (x ∷ xs) ys h k = (h.0, each_append xs ys h.1 k)

  pub each_left : (xs ys : List X) → Each P (xs ++ ys) → Each P xs
  each_left [] ys h = tt
  each_left (x ∷ xs) ys h = (h.0, each_left xs ys h.1)

  pub each_right : (xs ys : List X) → Each P (xs ++ ys) → Each P ys
  each_right [] ys h = h
  each_right (x ∷ xs) ys h = each_right xs ys h.1

  pub each_flat : {A : Type 0} (f : A → List X) (xs : List A) → Each (λ a. Each P (f a)) xs → Each P (flat_map f xs)
  each_flat f [] h = tt
  each_flat f (x ∷ xs) h = each_append (f x) (flat_map f xs) h.0 (each_flat f xs h.1)

  -- where it holds of all that a function gives
  pub each_given : {A : Type 0} (f : A → X) → ((a : A) → P (f a)) → (xs : List A) → Each P (map f xs)
  each_given f h [] = tt
  each_given f h (x ∷ xs) = (h x, each_given f h xs)

  -- where it holds of what a function gives of items of which R holds
  pub each_map : {A : Type 0} (R : A → Type 0) (f : A → X) → ((a : A) → R a → P (f a)) → (xs : List A) → Each R xs → Each P (map f xs)
  each_map R f h [] k = tt
  each_map R f h (x ∷ xs) k = (h x k.0, each_map R f h xs k.1)

  pub each_numbered : {A : Type 0} (R : A → Type 0) (f : ℕ → A → X) → ((n : ℕ) (a : A) → R a → P (f n a)) → (n : ℕ) (xs : List A) → Each R xs → Each P (numbered f n xs)
  each_numbered R f h n [] k = tt
  each_numbered R f h n (x ∷ xs) k = (h n x k.0, each_numbered R f h (n + 1) xs k.1)

  pub each_got : (xs : List X) (k : ℕ) → Each P xs → IfSome (slice_get xs k) P
  each_got [] k h = tt
  each_got (x ∷ xs) zero h = h.0
  each_got (x ∷ xs) (suc k) h = each_got xs k h.1

  pub each_set : (xs : List X) (k : ℕ) (x : X) → P x → Each P xs → Each P (slice_set xs k x)
  each_set xs k x p h = recursion_from_All P (slice_set xs k x) (All-set P xs k x p (All-from_recursion P xs h))

  pub each_held : (xs : List X) (x : X) → Each P xs → Contains xs x → P x
  each_held xs x h c = subst P c.2 (All-from_recursion P xs h c.0 x c.1)

  pub all_held : (xs : List X) → ((x : X) → Contains xs x → P x) → All P xs
  all_held xs h k d low = h (get_or xs k d) (k, low, get_or_default xs k (get_or xs k d) d low)
