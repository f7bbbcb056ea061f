-- Conditions, and tests of all items of a list.
use Rattle.std.proofs.Common.{◌≡◌, Bool, true, false, cond, ◌&&◌, List, [], ◌∷◌, ◌++◌, refl}
use Rattle.std.specs.List.{list_all}
use Rattle.net_exprs.proofs.Words.{both_true}

pub and_true : (a b : Bool) → a ≡ true → b ≡ true → a && b ≡ true
and_true true b h k = k
and_true false b h k = absurd (cc h)

pub if_true : {X : Type 0} (b : Bool) (x y : X) → b ≡ true → cond b x y ≡ x
if_true true x y h = refl
if_true false x y h = absurd (cc h)

pub if_false : {X : Type 0} (b : Bool) (x y : X) → b ≡ false → cond b x y ≡ y
if_false false x y h = refl
if_false true x y h = absurd (cc h)

module _ {A : Type 0} (f : A → Bool) where
  pub all_append : (xs ys : List A) → list_all f xs ≡ true → list_all f ys ≡ true → list_all f (xs ++ ys) ≡ true
  all_append [] ys h k = k
  all_append (x ∷ xs) ys h k = let both = both_true (f x) (list_all f xs) h in and_true (f x) (list_all f (xs ++ ys)) both.0 (all_append xs ys both.1 k)

  pub all_more : (g : A → Bool) (xs : List A) → ((x : A) → f x ≡ true → g x ≡ true) → list_all f xs ≡ true → list_all g xs ≡ true
  all_more g [] more h = refl
  all_more g (x ∷ xs) more h =
      let both = both_true (f x) (list_all f xs) h in
      and_true (g x) (list_all g xs) (more x both.0) (all_more g xs more both.1)

  pub all_both : (g : A → Bool) (xs : List A) → list_all f xs ≡ true → list_all g xs ≡ true → list_all (λ x. f x && g x) xs ≡ true
  all_both g [] h k = refl
  all_both g (x ∷ xs) h k =
      let first = both_true (f x) (list_all f xs) h in
      let second = both_true (g x) (list_all g xs) k in
      and_true (f x && g x) (list_all (λ x. f x && g x) xs) (and_true (f x) (g x) first.0 second.0) (all_both g xs first.1 second.1)
