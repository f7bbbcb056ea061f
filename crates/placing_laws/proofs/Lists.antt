-- Items of lists by their numbers, and the first that passes a test.
use Rattle.std.proofs.Common.{◌≡◌, ◌⊎◌, inl, inr, ℕ, zero, suc, ◌+◌, ◌<◌, ◌≤◌, Bool, true, false, not, cond, nat_lt, List, [], ◌∷◌, ◌++◌, map, length, Option, Some, None, unwrap_or, refl, sym, ap, ◌∙◌, arith, lt-ltb}
use Rattle.std.specs.Prelude.{slice_get, position, option_map, get_or, zip}
use Rattle.std.specs.List.{position_or_len, list_all}
use Rattle.std.proofs.lemmas.List.Quantifiers.{position-Some}
use Rattle.std.proofs.lemmas.Option.{slice_get-get_or}
use Rattle.up_base.proofs.Lists.{all_first, all_rest, all_more}

pub same_item : {A : Type 0} (x y : A) → Some x ≡ Some y → x ≡ y
same_item x y e = ap (λ o. unwrap_or o x) e

-- ---- two lists behind one another

pub in_front : {A : Type 0} (xs ys : List A) (j : ℕ) (x : A) → slice_get xs j ≡ Some x → slice_get (xs ++ ys) j ≡ Some x
in_front [] ys j x e = absurd (cc e)
in_front (a ∷ xs) ys zero x e = e
in_front (a ∷ xs) ys (suc j) x e = in_front xs ys j x e

pub at_back : {A : Type 0} (xs ys : List A) (j i : ℕ) (x : A) → i ≡ length xs + j → slice_get ys j ≡ Some x → slice_get (xs ++ ys) i ≡ Some x
at_back [] ys j i x n e = let here : i ≡ j = omega (arith, n) in ap (slice_get ys) here ∙ e
at_back (a ∷ xs) ys j zero x n e = absurd (omega (arith, n))
at_back (a ∷ xs) ys j (suc i) x n e = at_back xs ys j i x (omega (arith, n)) e

-- an item stands in the first of two lists, or in the second
abbrev pub Halves : {A : Type 0} → (xs ys : List A) → ℕ → A → Type 0
Halves xs ys i x = (slice_get xs i ≡ Some x) ⊎ ((j : ℕ) × (i ≡ length xs + j) × (slice_get ys j ≡ Some x))

pub split : {A : Type 0} (xs ys : List A) (i : ℕ) (x : A) → slice_get (xs ++ ys) i ≡ Some x → Halves xs ys i x
split [] ys i x e = inr (i, omega arith, e)
split (a ∷ xs) ys zero x e = inl e
split (a ∷ xs) ys (suc i) x e = shifted (split xs ys i x e)
  where
    shifted : Halves xs ys i x → Halves (a ∷ xs) ys (suc i) x
    shifted (inl h) = inl h
    shifted (inr h) = inr (h.0, omega (arith, h.1), h.2)

-- ---- the first that passes

abbrev pub FoundAt : {A : Type 0} → (A → Bool) → List A → ℕ → Type 0
FoundAt f [] n = ⊥
FoundAt f (x ∷ xs) zero = f x ≡ true
FoundAt f (x ∷ xs) (suc n) = (f x ≡ false) × FoundAt f xs n

abbrev pub Lacks : {A : Type 0} → (A → Bool) → List A → Type 0
Lacks f [] = Unit {0}
Lacks f (x ∷ xs) = (f x ≡ false) × Lacks f xs

found_place : {A : Type 0} (f : A → Bool) (xs : List A) (n : ℕ) → FoundAt f xs n → (position_or_len f xs ≡ n) × (n < length xs)
found_place f [] n h = absurd h
found_place f (x ∷ xs) zero h = (ap (λ b. cond (not b) (1 + position_or_len f xs) 0) h, omega arith)
found_place f (x ∷ xs) (suc n) h =
    let r = found_place f xs n h.1 in
    let place = r.0 in
    let within = r.1 in
    let more : 1 + position_or_len f xs ≡ suc n = omega (arith, place) in
    (ap (λ b. cond (not b) (1 + position_or_len f xs) 0) h.0 ∙ more, omega (arith, within))

pub found_position : {A : Type 0} (f : A → Bool) (xs : List A) (n : ℕ) → FoundAt f xs n → position f xs ≡ Some n
found_position f xs n h =
    let r = found_place f xs n h in
    ap (λ m. cond (nat_lt m (length xs)) (Some m) None) r.0 ∙ ap (λ b. cond b (Some n) None) (lt-ltb n (length xs) r.1)

pub at_position : {A : Type 0} (f : A → Bool) (xs : List A) (n : ℕ) → position f xs ≡ Some n → (x : A) × (slice_get xs n ≡ Some x) × (f x ≡ true)
at_position f [] n e = absurd (cc e)
at_position f (x ∷ xs) n e =
    let h = position-Some f (x ∷ xs) n x e in
    (get_or (x ∷ xs) n x, slice_get-get_or (x ∷ xs) n x h.0, h.1)

pub found_left : {A : Type 0} (f : A → Bool) (xs ys : List A) (n : ℕ) → FoundAt f xs n → FoundAt f (xs ++ ys) n
found_left f [] ys n h = absurd h
found_left f (x ∷ xs) ys zero h = h
found_left f (x ∷ xs) ys (suc n) h = (h.0, found_left f xs ys n h.1)

pub found_right : {A : Type 0} (f : A → Bool) (xs ys : List A) (n : ℕ) → Lacks f xs → FoundAt f ys n → (m : ℕ) × (m ≡ length xs + n) × FoundAt f (xs ++ ys) m
found_right f [] ys n l h = (n, omega arith, h)
found_right f (x ∷ xs) ys n l h =
    let r = found_right f xs ys n l.1 h in
    let same = r.1 in
    (suc r.0, omega (arith, same), (l.0, r.2))

pub lacks_both : {A : Type 0} (f : A → Bool) (xs ys : List A) → Lacks f xs → Lacks f ys → Lacks f (xs ++ ys)
lacks_both f [] ys h k = k
lacks_both f (x ∷ xs) ys h k = (h.0, lacks_both f xs ys h.1 k)

-- ---- lists under functions

map_item : {A B : Type 0} (f : A → B) (xs : List A) (k : ℕ) → slice_get (map f xs) k ≡ option_map f (slice_get xs k)
map_item f [] k = refl
map_item f (x ∷ xs) zero = refl
map_item f (x ∷ xs) (suc k) = map_item f xs k

some_below : {A B : Type 0} (f : A → B) (o : Option A) (c : B) → option_map f o ≡ Some c → (x : A) × (o ≡ Some x) × (f x ≡ c)
some_below f None c e = absurd (cc e)
some_below f (Some x) c e = (x, refl, same_item (f x) c e)

none_below : {A B : Type 0} (f : A → B) (o : Option A) → option_map f o ≡ None → o ≡ None
none_below f None e = refl
none_below f (Some x) e = absurd (cc e)

pub some_under : {A B : Type 0} (f : A → B) (xs : List A) (k : ℕ) (x : A) → slice_get xs k ≡ Some x → slice_get (map f xs) k ≡ Some (f x)
some_under f xs k x e = map_item f xs k ∙ ap (option_map f) e

pub some_behind : {A B : Type 0} (f : A → B) (xs : List A) (k : ℕ) (c : B) → slice_get (map f xs) k ≡ Some c → (x : A) × (slice_get xs k ≡ Some x) × (f x ≡ c)
some_behind f xs k c e = some_below f (slice_get xs k) c (sym (map_item f xs k) ∙ e)

pub none_behind : {A B : Type 0} (f : A → B) (xs : List A) (k : ℕ) → slice_get (map f xs) k ≡ None → slice_get xs k ≡ None
none_behind f xs k e = none_below f (slice_get xs k) (sym (map_item f xs k) ∙ e)

pub none_under : {A B : Type 0} (f : A → B) (xs : List A) (k : ℕ) → slice_get xs k ≡ None → slice_get (map f xs) k ≡ None
none_under f xs k e = map_item f xs k ∙ ap (option_map f) e

-- ---- pairs of items

pub zip_item : {A B : Type 0} (xs : List A) (ys : List B) (k : ℕ) (y : B) → length ys ≤ length xs → slice_get ys k ≡ Some y
    → (x : A) × (slice_get xs k ≡ Some x) × (slice_get (zip xs ys) k ≡ Some (x, y))
zip_item xs [] k y h e = absurd (cc e)
zip_item [] (z ∷ ys) k y h e = absurd (omega (arith, h))
zip_item (x ∷ xs) (z ∷ ys) zero y h e = (x, refl, ap (λ o. Some (x, unwrap_or o z)) e)
zip_item (x ∷ xs) (z ∷ ys) (suc k) y h e = zip_item xs ys k y (omega (arith, h)) e

pub zip_none : {A B : Type 0} (xs : List A) (ys : List B) (k : ℕ) → slice_get ys k ≡ None → slice_get (zip xs ys) k ≡ None
zip_none [] ys k e = refl
zip_none (x ∷ xs) [] k e = refl
zip_none (x ∷ xs) (z ∷ ys) zero e = absurd (cc e)
zip_none (x ∷ xs) (z ∷ ys) (suc k) e = zip_none xs ys k e

pub zip_all : {A B : Type 0} (f : A × B → Bool) (g : B → Bool) → ((x : A) (y : B) → g y ≡ true → f (x, y) ≡ true) → (xs : List A) (ys : List B)
    → list_all g ys ≡ true → list_all f (zip xs ys) ≡ true
zip_all f g h [] ys e = refl
zip_all f g h (x ∷ xs) [] e = refl
zip_all f g h (x ∷ xs) (y ∷ ys) e =
    all_more f (x, y) (zip xs ys) (h x y (all_first g y ys e)) (zip_all f g h xs ys (all_rest g y ys e))
