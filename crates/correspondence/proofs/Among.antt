-- What stands in a list, and tests on it.
use Rattle.std.proofs.Common.{◌≡◌, Bool, true, false, ◌||◌, cond, List, [], ◌∷◌, ◌++◌, map, refl, sym, ap, ◌∙◌, subst, inl, inr}
use Rattle.std.specs.Prelude.{◌⊎◌}
use Rattle.correspondence.specs.Lists.{In}
use Rattle.std.specs.List.{filter, flat_map, list_any}
use Rattle.std.proofs.lemmas.Bool.{false≢true}

pub or_cases : (a b : Bool) → a || b ≡ true → (a ≡ true) ⊎ (b ≡ true)
or_cases true b h = inl refl
or_cases false b h = inr h

pub or_left : (a b : Bool) → a ≡ true → a || b ≡ true
or_left true b h = refl
or_left false b h = absurd (false≢true h)

pub or_right : (a b : Bool) → b ≡ true → a || b ≡ true
or_right true b h = refl
or_right false b h = h

pub any_has : {A : Type 0} (p : A → Bool) (xs : List A) → list_any p xs ≡ true → (x : A) × In x xs × (p x ≡ true)
any_has p [] h = absurd (false≢true h)
any_has p (x ∷ xs) h =
    elim (or_cases (p x) (list_any p xs) h) [ inl e ↦ (x, inl refl, e) | inr e ↦ further p x xs (any_has p xs e) ]
  where
    further : {A : Type 0} (p : A → Bool) (x : A) (xs : List A) → (y : A) × In y xs × (p y ≡ true) → (y : A) × In y (x ∷ xs) × (p y ≡ true)
    further p x xs w = (w.0, inr w.1, w.2)

pub has_any : {A : Type 0} (p : A → Bool) (xs : List A) (x : A) → In x xs → p x ≡ true → list_any p xs ≡ true
has_any p [] x i h = absurd i
has_any p (y ∷ ys) x i h =
    elim i [ inl e ↦ or_left (p y) (list_any p ys) (sym (ap p e) ∙ h) | inr j ↦ or_right (p y) (list_any p ys) (has_any p ys x j h) ]

in_front : {A : Type 0} (b : Bool) (x y : A) (rest : List A) → ((x ≡ y) × (b ≡ true)) ⊎ In x rest → In x (cond b (y ∷ rest) rest)
in_front true x y rest w = elim w [ inl e ↦ inl e.0 | inr i ↦ inr i ]
in_front false x y rest w = elim w [ inl e ↦ absurd (false≢true e.1) | inr i ↦ i ]

from_front : {A : Type 0} (b : Bool) (x y : A) (rest : List A) → In x (cond b (y ∷ rest) rest) → ((x ≡ y) × (b ≡ true)) ⊎ In x rest
from_front true x y rest i = elim i [ inl e ↦ inl (e, refl) | inr j ↦ inr j ]
from_front false x y rest i = inr i

pub in_filter : {A : Type 0} (p : A → Bool) (xs : List A) (x : A) → In x xs → p x ≡ true → In x (filter p xs)
in_filter p [] x i h = i
in_filter p (y ∷ ys) x i h =
    in_front (p y) x y (filter p ys) (elim i [ inl e ↦ inl (e, sym (ap p e) ∙ h) | inr j ↦ inr (in_filter p ys x j h) ])

pub from_filter : {A : Type 0} (p : A → Bool) (xs : List A) (x : A) → In x (filter p xs) → In x xs × (p x ≡ true)
from_filter p [] x i = absurd i
from_filter p (y ∷ ys) x i =
    elim (from_front (p y) x y (filter p ys) i) [ inl w ↦ (inl w.0, ap p w.0 ∙ w.1) | inr j ↦ further p x y ys (from_filter p ys x j) ]
  where
    further : {A : Type 0} (p : A → Bool) (x y : A) (ys : List A) → In x ys × (p x ≡ true) → In x (y ∷ ys) × (p x ≡ true)
    further p x y ys w = (inr w.0, w.1)

-- ---- lists behind one another and under functions

pub in_left : {A : Type 0} (xs ys : List A) (x : A) → In x xs → In x (xs ++ ys)
in_left [] ys x i = absurd i
in_left (a ∷ xs) ys x (inl e) = inl e
in_left (a ∷ xs) ys x (inr i) = inr (in_left xs ys x i)

pub in_right : {A : Type 0} (xs ys : List A) (x : A) → In x ys → In x (xs ++ ys)
in_right [] ys x i = i
in_right (a ∷ xs) ys x i = inr (in_right xs ys x i)

pub in_either : {A : Type 0} (xs ys : List A) (x : A) → In x (xs ++ ys) → In x xs ⊎ In x ys
in_either [] ys x i = inr i
in_either (a ∷ xs) ys x (inl e) = inl (inl e)
in_either (a ∷ xs) ys x (inr i) = shifted (in_either xs ys x i)
  where
    shifted : In x xs ⊎ In x ys → In x (a ∷ xs) ⊎ In x ys
    shifted (inl j) = inl (inr j)
    shifted (inr j) = inr j

pub in_flat : {A B : Type 0} (f : A → List B) (xs : List A) (x : A) (y : B) → In x xs → In y (f x) → In y (flat_map f xs)
in_flat f [] x y i j = absurd i
in_flat f (a ∷ xs) x y (inl e) j = in_left (f a) (flat_map f xs) y (subst (λ z. In y (f z)) e j)
in_flat f (a ∷ xs) x y (inr i) j = in_right (f a) (flat_map f xs) y (in_flat f xs x y i j)

pub in_map : {A B : Type 0} (f : A → B) (xs : List A) (x : A) → In x xs → In (f x) (map f xs)
in_map f [] x i = i
in_map f (a ∷ xs) x (inl e) = inl (ap f e)
in_map f (a ∷ xs) x (inr i) = inr (in_map f xs x i)

pub from_map : {A B : Type 0} (f : A → B) (xs : List A) (y : B) → In y (map f xs) → (x : A) × In x xs × (y ≡ f x)
from_map f [] y i = absurd i
from_map f (a ∷ xs) y (inl e) = (a, inl refl, e)
from_map f (a ∷ xs) y (inr i) = let more = from_map f xs y i in (more.0, inr more.1, more.2)
