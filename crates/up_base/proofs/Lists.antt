-- Tests of all items of lists.
use Rattle.std.proofs.Common.{◌≡◌, ℕ, zero, suc, Bool, true, List, [], ◌∷◌, ◌++◌, map, take, drop, refl}
use Rattle.std.specs.List.{list_all, flat_map}
pub use Rattle.up_base.proofs.Tests.{by_test, both_true, and_true}

module _ {A : Type 0} (f : A → Bool) where
  pub all_more : (x : A) (xs : List A) → f x ≡ true → list_all f xs ≡ true → list_all f (x ∷ xs) ≡ true
  all_more x xs h k = and_true (f x) (list_all f xs) h k

  pub all_first : (x : A) (xs : List A) → list_all f (x ∷ xs) ≡ true → f x ≡ true
  all_first x xs h = (both_true (f x) (list_all f xs) h).0

  pub all_rest : (x : A) (xs : List A) → list_all f (x ∷ xs) ≡ true → list_all f xs ≡ true
  all_rest x xs h = (both_true (f x) (list_all f xs) h).1

  pub all_append : (xs ys : List A) → list_all f xs ≡ true → list_all f ys ≡ true → list_all f (xs ++ ys) ≡ true
  all_append [] ys h k = k
  all_append (x ∷ xs) ys h k = all_more x (xs ++ ys) (all_first x xs h) (all_append xs ys (all_rest x xs h) k)

  pub all_left : (xs ys : List A) → list_all f (xs ++ ys) ≡ true → list_all f xs ≡ true
  all_left [] ys h = refl
  all_left (x ∷ xs) ys h = all_more x xs (all_first x (xs ++ ys) h) (all_left xs ys (all_rest x (xs ++ ys) h))

  pub all_right : (xs ys : List A) → list_all f (xs ++ ys) ≡ true → list_all f ys ≡ true
  all_right [] ys h = h
  all_right (x ∷ xs) ys h = all_right xs ys (all_rest x (xs ++ ys) h)

  pub all_take : (n : ℕ) (xs : List A) → list_all f xs ≡ true → list_all f (take n xs) ≡ true
  all_take zero xs h = refl
  all_take (suc n) [] h = refl
  all_take (suc n) (x ∷ xs) h = all_more x (take n xs) (all_first x xs h) (all_take n xs (all_rest x xs h))

  pub all_drop : (n : ℕ) (xs : List A) → list_all f xs ≡ true → list_all f (drop n xs) ≡ true
  all_drop zero xs h = h
  all_drop (suc n) [] h = refl
  all_drop (suc n) (x ∷ xs) h = all_drop n xs (all_rest x xs h)

  pub all_map : {B : Type 0} (g : B → A) (ys : List B) → ((y : B) → f (g y) ≡ true) → list_all f (map g ys) ≡ true
  all_map g [] h = refl
  all_map g (y ∷ ys) h = all_more (g y) (map g ys) (h y) (all_map g ys h)

-- what passes one test passes another that it leads to, through a function
pub all_through : {A B : Type 0} (f : A → Bool) (h : B → Bool) (g : A → B) → ((x : A) → f x ≡ true → h (g x) ≡ true) → (xs : List A) → list_all f xs ≡ true → list_all h (map g xs) ≡ true
all_through f h g leads [] e = refl
all_through f h g leads (x ∷ xs) e = all_more h (g x) (map g xs) (leads x (all_first f x xs e)) (all_through f h g leads xs (all_rest f x xs e))

pub all_leads : {A : Type 0} (f h : A → Bool) → ((x : A) → f x ≡ true → h x ≡ true) → (xs : List A) → list_all f xs ≡ true → list_all h xs ≡ true
all_leads f h leads [] e = refl
all_leads f h leads (x ∷ xs) e = all_more h x xs (leads x (all_first f x xs e)) (all_leads f h leads xs (all_rest f x xs e))

-- what passes one test gives lists of what passes another
pub all_flat : {A B : Type 0} (f : A → Bool) (h : B → Bool) (g : A → List B) → ((x : A) → f x ≡ true → list_all h (g x) ≡ true) → (xs : List A) → list_all f xs ≡ true → list_all h (flat_map g xs) ≡ true
all_flat f h g leads [] e = refl
all_flat f h g leads (x ∷ xs) e = all_append h (g x) (flat_map g xs) (leads x (all_first f x xs e)) (all_flat f h g leads xs (all_rest f x xs e))
