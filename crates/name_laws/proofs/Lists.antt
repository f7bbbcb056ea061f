-- What lists have, and tests that all items of them pass.
use Rattle.std.proofs.Common.{◌≡◌, refl, ap, sym, subst, ◌∙◌, ℕ, zero, suc, ◌<◌, Bool, true, false, cond, ◌&&◌, List, [], ◌∷◌, ◌++◌, map, length, get_or, Some, slice_get, arith, inl, inr, ⊎_elim, nat_eq}
use Rattle.std.specs.Prelude.{◌⊎◌, ◌||◌}
use Rattle.std.specs.List.{Contains, flat_map, list_all, list_any}
use Rattle.std.specs.Cmp.Lexicographic.{pointwise}
use Rattle.std.proofs.lemmas.Bool.{eqb-true}
use Rattle.std.proofs.lemmas.Bool.Decides.{nat_tests}

-- ---- tests

pub both_true : (a b : Bool) → (a && b) ≡ true → (a ≡ true) × (b ≡ true)
both_true true b h = (refl, h)
both_true false b h = absurd (cc h)

pub and_true : (a b : Bool) → a ≡ true → b ≡ true → (a && b) ≡ true
and_true true b h e = e
and_true false b h e = absurd (cc h)

pub neither : (a b : Bool) → (a || b) ≡ false → (a ≡ false) × (b ≡ false)
neither true b h = absurd (cc h)
neither false b h = (refl, h)

pub none_of_both : (a b : Bool) → a ≡ false → b ≡ false → (a || b) ≡ false
none_of_both true b h e = absurd (cc h)
none_of_both false b h e = e

pub second_false : (a b : Bool) → a ≡ true → (a && b) ≡ false → b ≡ false
second_false true b h e = e
second_false false b h e = absurd (cc h)

pub same_number : (n m : ℕ) → n ≡ m → nat_eq n m ≡ true
same_number n m e = grind (arith, nat_tests)

-- ---- options

pub some_same : {X : Type 0} (x y : X) → Some x ≡ Some y → x ≡ y
some_same x y e = cc e

-- ---- items

abbrev pub Among : {X : Type 0} → List X → X → Type 0
Among [] x = ⊥
Among (y ∷ ys) x = (y ≡ x) ⊎ Among ys x

at_among : {X : Type 0} (xs : List X) (x : X) (k : ℕ) → k < length xs → get_or xs k x ≡ x → Among xs x
at_among [] x k l e = absurd (omega arith)
at_among (y ∷ ys) x zero l e = inl e
at_among (y ∷ ys) x (suc k) l e = inr (at_among ys x k (omega arith) e)

pub among : {X : Type 0} (xs : List X) (x : X) → Contains xs x → Among xs x
among xs x h = at_among xs x h.0 h.1 h.2

pub contains : {X : Type 0} (xs : List X) (x : X) → Among xs x → Contains xs x
contains [] x h = absurd h
contains (y ∷ ys) x (inl e) = (0, omega arith, e)
contains (y ∷ ys) x (inr h) = let c = contains ys x h in (suc c.0, (let l = c.1 in omega arith), c.2)

pub among_at : {X : Type 0} (xs : List X) (i : ℕ) (x : X) → slice_get xs i ≡ Some x → Among xs x
among_at [] i x e = absurd (cc e)
among_at (y ∷ ys) zero x e = inl (some_same y x e)
among_at (y ∷ ys) (suc i) x e = inr (among_at ys i x e)

pub among_append : {X : Type 0} (xs ys : List X) (x : X) → Among (xs ++ ys) x → Among xs x ⊎ Among ys x
among_append [] ys x h = inr h
among_append (z ∷ zs) ys x (inl e) = inl (inl e)
among_append (z ∷ zs) ys x (inr h) = ⊎_elim (λ p. inl (inr p)) inr (among_append zs ys x h)

pub among_left : {X : Type 0} (xs ys : List X) (x : X) → Among xs x → Among (xs ++ ys) x
among_left [] ys x h = absurd h
among_left (z ∷ zs) ys x (inl e) = inl e
among_left (z ∷ zs) ys x (inr h) = inr (among_left zs ys x h)

pub among_right : {X : Type 0} (xs ys : List X) (x : X) → Among ys x → Among (xs ++ ys) x
among_right [] ys x h = h
among_right (z ∷ zs) ys x h = inr (among_right zs ys x h)

pub among_map : {X Y : Type 0} (f : X → Y) (xs : List X) (y : Y) → Among (map f xs) y → (x : X) × Among xs x × (f x ≡ y)
among_map f [] y h = absurd h
among_map f (x ∷ xs) y (inl e) = (x, inl refl, e)
among_map f (x ∷ xs) y (inr h) = let m = among_map f xs y h in (m.0, inr m.1, m.2)

pub map_among : {X Y : Type 0} (f : X → Y) (xs : List X) (x : X) → Among xs x → Among (map f xs) (f x)
map_among f [] x h = absurd h
map_among f (z ∷ zs) x (inl e) = inl (ap f e)
map_among f (z ∷ zs) x (inr h) = inr (map_among f zs x h)

pub flat_among : {X Y : Type 0} (f : X → List Y) (xs : List X) (x : X) (y : Y) → Among xs x → Among (f x) y → Among (flat_map f xs) y
flat_among f [] x y h e = absurd h
flat_among f (z ∷ zs) x y (inl h) e = among_left (f z) (flat_map f zs) y (subst (λ w. Among (f w) y) (sym h) e)
flat_among f (z ∷ zs) x y (inr h) e = among_right (f z) (flat_map f zs) y (flat_among f zs x y h e)

-- ---- tests that all items pass, or one

pub all_among : {X : Type 0} (p : X → Bool) (xs : List X) (x : X) → list_all p xs ≡ true → Among xs x → p x ≡ true
all_among p [] x h m = absurd m
all_among p (y ∷ ys) x h (inl e) = sym (ap p e) ∙ (both_true (p y) (list_all p ys) h).0
all_among p (y ∷ ys) x h (inr m) = all_among p ys x (both_true (p y) (list_all p ys) h).1 m

pub all_at : {X : Type 0} (p : X → Bool) (xs : List X) (i : ℕ) (x : X) → list_all p xs ≡ true → slice_get xs i ≡ Some x → p x ≡ true
all_at p xs i x h e = all_among p xs x h (among_at xs i x e)

pub all_append : {X : Type 0} (p : X → Bool) (xs ys : List X) → list_all p xs ≡ true → list_all p ys ≡ true → list_all p (xs ++ ys) ≡ true
all_append p [] ys h e = e
all_append p (x ∷ xs) ys h e =
    let b = both_true (p x) (list_all p xs) h in
    and_true (p x) (list_all p (xs ++ ys)) b.0 (all_append p xs ys b.1 e)

pub all_cond : {X : Type 0} (p : X → Bool) (b : Bool) (xs ys : List X) → list_all p xs ≡ true → list_all p ys ≡ true → list_all p (cond b xs ys) ≡ true
all_cond p true xs ys h e = h
all_cond p false xs ys h e = e

pub all_map : {X Y : Type 0} (p : Y → Bool) (f : X → Y) (q : X → Bool) (xs : List X) → ((x : X) → q x ≡ true → p (f x) ≡ true)
    → list_all q xs ≡ true → list_all p (map f xs) ≡ true
all_map p f q [] each h = refl
all_map p f q (x ∷ xs) each h =
    let b = both_true (q x) (list_all q xs) h in
    and_true (p (f x)) (list_all p (map f xs)) (each x b.0) (all_map p f q xs each b.1)

pub all_mapped : {X Y : Type 0} (p : Y → Bool) (f : X → Y) (xs : List X) → ((x : X) → p (f x) ≡ true) → list_all p (map f xs) ≡ true
all_mapped p f [] each = refl
all_mapped p f (x ∷ xs) each = and_true (p (f x)) (list_all p (map f xs)) (each x) (all_mapped p f xs each)

pub all_flat : {X Y : Type 0} (p : Y → Bool) (f : X → List Y) (xs : List X) → ((x : X) → list_all p (f x) ≡ true) → list_all p (flat_map f xs) ≡ true
all_flat p f [] each = refl
all_flat p f (x ∷ xs) each = all_append p (f x) (flat_map f xs) (each x) (all_flat p f xs each)

pub any_among : {X : Type 0} (p : X → Bool) (xs : List X) → list_any p xs ≡ true → (x : X) × Among xs x × (p x ≡ true)
any_among p [] h = absurd (cc h)
any_among {X} p (x ∷ xs) h = by (p x) refl h (λ k. any_among p xs k)
  where
    by : (b : Bool) → p x ≡ b → (b || list_any p xs) ≡ true → (list_any p xs ≡ true → (y : X) × Among xs y × (p y ≡ true))
        → (y : X) × Among (x ∷ xs) y × (p y ≡ true)
    by true e k more = (x, inl refl, e)
    by false e k more = let m = more k in (m.0, inr m.1, m.2)

-- no item at a place passes
pub none_at : {X : Type 0} (p : X → Bool) (xs : List X) (i : ℕ) (x : X) → list_any p xs ≡ false → slice_get xs i ≡ Some x → p x ≡ false
none_at p [] i x h e = absurd (cc e)
none_at p (y ∷ ys) zero x h e = sym (ap p (some_same y x e)) ∙ (neither (p y) (list_any p ys) h).0
none_at p (y ∷ ys) (suc i) x h e = none_at p ys i x (neither (p y) (list_any p ys) h).1 e

-- ---- maps and numbers

pub map_append : {X Y : Type 0} (f : X → Y) (xs ys : List X) → map f (xs ++ ys) ≡ map f xs ++ map f ys
map_append f [] ys = refl
map_append {X} {Y} f (x ∷ xs) ys = ap {B = List Y} (λ zs. f x ∷ zs) (map_append f xs ys)

pub same_numbers : (xs ys : List ℕ) → pointwise nat_eq xs ys ≡ true → xs ≡ ys
same_numbers [] [] h = refl
same_numbers [] (y ∷ ys) h = absurd (cc h)
same_numbers (x ∷ xs) [] h = absurd (cc h)
same_numbers (x ∷ xs) (y ∷ ys) h =
    let b = both_true (nat_eq x y) (pointwise nat_eq xs ys) h in
    ap {B = List ℕ} (λ z. z ∷ xs) (eqb-true x y b.0) ∙ ap {B = List ℕ} (λ zs. y ∷ zs) (same_numbers xs ys b.1)
