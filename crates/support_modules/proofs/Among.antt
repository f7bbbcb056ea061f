-- What stands in a list, and tests on it.
use Rattle.std.proofs.Common.{◌≡◌, Bool, true, false, ◌||◌, cond, List, [], ◌∷◌, refl, sym, ap, ◌∙◌, inl, inr}
use Rattle.std.specs.Prelude.{◌⊎◌}
use Rattle.std.specs.List.{filter, list_any}
use Rattle.std.proofs.lemmas.Bool.{false≢true}

abbrev pub In : {A : Type 0} → A → List A → Type 0
In x [] = ⊥
In x (y ∷ ys) = (x ≡ y) ⊎ In x ys

pub or_cases : (a b : Bool) → a || b ≡ true → (a ≡ true) ⊎ (b ≡ true)
or_cases true b h = inl refl
or_cases false b h = inr h

pub or_left : (a b : Bool) → a ≡ true → a || b ≡ true
or_left true b h = refl
or_left false b h = absurd (false≢true h)

pub or_right : (a b : Bool) → b ≡ true → a || b ≡ true
or_right true b h = refl
or_right false b h = h

pub same_tests : (a b : Bool) → (a ≡ true → b ≡ true) → (b ≡ true → a ≡ true) → a ≡ b
same_tests true true f g = refl
same_tests true false f g = sym (f refl)
same_tests false true f g = g refl
same_tests false false f g = refl

pub any_has : {A : Type 0} (p : A → Bool) (xs : List A) → list_any p xs ≡ true → (x : A) × In x xs × (p x ≡ true)
any_has p [] h = absurd (false≢true h)
any_has p (x ∷ xs) h =
    elim (or_cases (p x) (list_any p xs) h) [ inl e ↦ (x, inl refl, e) | inr e ↦ further p x xs (any_has p xs e) ]
  where
    further : {A : Type 0} (p : A → Bool) (x : A) (xs : List A) → (y : A) × In y xs × (p y ≡ true) → (y : A) × In y (x ∷ xs) × (p y ≡ true)
    further p x xs w = (w.0, inr w.1, w.2)

pub has_any : {A : Type 0} (p : A → Bool) (xs : List A) (x : A) → In x xs → p x ≡ true → list_any p xs ≡ true
has_any p [] x i h = absurd i
has_any p (y ∷ ys) x i h =
    elim i [ inl e ↦ or_left (p y) (list_any p ys) (sym (ap p e) ∙ h) | inr j ↦ or_right (p y) (list_any p ys) (has_any p ys x j h) ]

in_front : {A : Type 0} (b : Bool) (x y : A) (rest : List A) → ((x ≡ y) × (b ≡ true)) ⊎ In x rest → In x (cond b (y ∷ rest) rest)
in_front true x y rest w = elim w [ inl e ↦ inl e.0 | inr i ↦ inr i ]
in_front false x y rest w = elim w [ inl e ↦ absurd (false≢true e.1) | inr i ↦ i ]

from_front : {A : Type 0} (b : Bool) (x y : A) (rest : List A) → In x (cond b (y ∷ rest) rest) → ((x ≡ y) × (b ≡ true)) ⊎ In x rest
from_front true x y rest i = elim i [ inl e ↦ inl (e, refl) | inr j ↦ inr j ]
from_front false x y rest i = inr i

pub in_filter : {A : Type 0} (p : A → Bool) (xs : List A) (x : A) → In x xs → p x ≡ true → In x (filter p xs)
in_filter p [] x i h = i
in_filter p (y ∷ ys) x i h =
    in_front (p y) x y (filter p ys) (elim i [ inl e ↦ inl (e, sym (ap p e) ∙ h) | inr j ↦ inr (in_filter p ys x j h) ])

pub from_filter : {A : Type 0} (p : A → Bool) (xs : List A) (x : A) → In x (filter p xs) → In x xs × (p x ≡ true)
from_filter p [] x i = absurd i
from_filter p (y ∷ ys) x i =
    elim (from_front (p y) x y (filter p ys) i) [ inl w ↦ (inl w.0, ap p w.0 ∙ w.1) | inr j ↦ further p x y ys (from_filter p ys x j) ]
  where
    further : {A : Type 0} (p : A → Bool) (x y : A) (ys : List A) → In x ys × (p x ≡ true) → In x (y ∷ ys) × (p x ≡ true)
    further p x y ys w = (inr w.0, w.1)

-- two tests that agree on what stands in a list keep the same of it
pub filter_same : {A : Type 0} (p q : A → Bool) (xs : List A) → ((x : A) → In x xs → p x ≡ q x) → filter p xs ≡ filter q xs
filter_same p q [] h = refl
filter_same p q (x ∷ xs) h =
    ap (λ b. cond b (x ∷ filter p xs) (filter p xs)) (h x (inl refl))
    ∙ ap (λ ys. cond (q x) (x ∷ ys) ys) (filter_same p q xs (λ y i. h y (inr i)))
