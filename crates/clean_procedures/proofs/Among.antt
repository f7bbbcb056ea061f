-- Membership by recursion, and what joined, mapped and numbered lists have.
use Rattle.std.proofs.Common.{◌≡◌, ℕ, ◌+◌, Bool, true, false, List, [], ◌∷◌, ◌++◌, map, length, get_or, Some, refl, ap, sym, subst, ◌∙◌, arith, inl, inr, ⊎_elim, zero, suc, ◌<◌, nat_eq}
use Rattle.std.specs.Prelude.{◌⊎◌, ◌||◌, slice_get}
use Rattle.std.specs.List.{Contains, flat_map}
use Rattle.std.proofs.lemmas.Bool.{eqb-true}
use Rattle.std.proofs.lemmas.Bool.Decides.{nat_tests}
use Rattle.bound_facts.specs.Leading.{is_in}
use Rattle.clean_procedures.specs.Broken.{number_if, those_from}

abbrev pub Among : {X : Type 0} → List X → X → Type 0
Among [] x = ⊥
Among (y ∷ ys) x = (y ≡ x) ⊎ Among ys x

at_among : {X : Type 0} (xs : List X) (x : X) (k : ℕ) → k < length xs → get_or xs k x ≡ x → Among xs x
at_among [] x k l e = absurd (omega arith)
at_among (y ∷ ys) x zero l e = inl e
at_among (y ∷ ys) x (suc k) l e = inr (at_among ys x k (omega arith) e)

pub among : {X : Type 0} (xs : List X) (x : X) → Contains xs x → Among xs x
among xs x h = at_among xs x h.0 h.1 h.2

pub contains : {X : Type 0} (xs : List X) (x : X) → Among xs x → Contains xs x
contains [] x h = absurd h
contains (y ∷ ys) x (inl e) = (0, omega arith, e)
contains (y ∷ ys) x (inr h) = let c = contains ys x h in (suc c.0, (let l = c.1 in omega arith), c.2)

pub among_append : {X : Type 0} (xs ys : List X) (x : X) → Among (xs ++ ys) x → Among xs x ⊎ Among ys x
among_append [] ys x h = inr h
among_append (z ∷ zs) ys x (inl e) = inl (inl e)
among_append (z ∷ zs) ys x (inr h) = ⊎_elim (λ p. inl (inr p)) inr (among_append zs ys x h)

pub among_left : {X : Type 0} (xs ys : List X) (x : X) → Among xs x → Among (xs ++ ys) x
among_left [] ys x h = absurd h
among_left (z ∷ zs) ys x (inl e) = inl e
among_left (z ∷ zs) ys x (inr h) = inr (among_left zs ys x h)

pub among_right : {X : Type 0} (xs ys : List X) (x : X) → Among ys x → Among (xs ++ ys) x
among_right [] ys x h = h
among_right (z ∷ zs) ys x h = inr (among_right zs ys x h)

-- what a mapped list has
pub among_map : {X Y : Type 0} (f : X → Y) (xs : List X) (y : Y) → Among (map f xs) y → (x : X) × Among xs x × (f x ≡ y)
among_map f [] y h = absurd h
among_map f (x ∷ xs) y (inl e) = (x, inl refl, e)
among_map f (x ∷ xs) y (inr h) = let m = among_map f xs y h in (m.0, inr m.1, m.2)

pub map_among : {X Y : Type 0} (f : X → Y) (xs : List X) (x : X) → Among xs x → Among (map f xs) (f x)
map_among f [] x h = absurd h
map_among f (z ∷ zs) x (inl e) = inl (ap f e)
map_among f (z ∷ zs) x (inr h) = inr (map_among f zs x h)

-- what a list of lists has
pub among_flat : {X Y : Type 0} (f : X → List Y) (xs : List X) (y : Y) → Among (flat_map f xs) y → (x : X) × Among xs x × Among (f x) y
among_flat f [] y h = absurd h
among_flat f (x ∷ xs) y h = ⊎_elim (λ p. (x, inl refl, p)) (λ q. let m = among_flat f xs y q in (m.0, inr m.1, m.2)) (among_append (f x) (flat_map f xs) y h)

pub flat_among : {X Y : Type 0} (f : X → List Y) (xs : List X) (x : X) (y : Y) → Among xs x → Among (f x) y → Among (flat_map f xs) y
flat_among f [] x y h e = absurd h
flat_among f (z ∷ zs) x y (inl h) e = among_left (f z) (flat_map f zs) y (subst (λ w. Among (f w) y) (sym h) e)
flat_among f (z ∷ zs) x y (inr h) e = among_right (f z) (flat_map f zs) y (flat_among f zs x y h e)

-- ---- numbers

in_step : (a n : ℕ) (ns : List ℕ) (b : Bool) → nat_eq n a ≡ b → (b || is_in ns n) ≡ true → (is_in ns n ≡ true → Among ns n) → Among (a ∷ ns) n
in_step a n ns true e h more = inl (sym (eqb-true n a e))
in_step a n ns false e h more = inr (more h)

pub in_among : (ns : List ℕ) (n : ℕ) → is_in ns n ≡ true → Among ns n
in_among [] n h = absurd (cc h)
in_among (a ∷ ns) n h = in_step a n ns (nat_eq n a) refl h (in_among ns n)

same_number : (n m : ℕ) → n ≡ m → nat_eq m n ≡ true
same_number n m e = grind (arith, nat_tests)

or_true : (b : Bool) → (b || true) ≡ true
or_true true = refl
or_true false = refl

pub among_in : (ns : List ℕ) (n : ℕ) → Among ns n → is_in ns n ≡ true
among_in [] n h = absurd h
among_in (a ∷ ns) n (inl e) = ap (λ b. b || is_in ns n) (same_number a n e)
among_in (a ∷ ns) n (inr h) = ap (λ b. nat_eq n a || b) (among_in ns n h) ∙ or_true (nat_eq n a)

-- the numbers of those that pass a test
abbrev pub Passes : {X : Type 0} → (X → Bool) → ℕ → List X → ℕ → Type 0
Passes {X} test k xs n = (j : ℕ) × (x : X) × (n ≡ k + j) × (slice_get xs j ≡ Some x) × (test x ≡ true)

number_has : (k n : ℕ) (b : Bool) → Among (number_if b k) n → (k ≡ n) × (b ≡ true)
number_has k n true (inl e) = (e, refl)
number_has k n true (inr h) = absurd h
number_has k n false h = absurd h

pub those_have : {X : Type 0} (test : X → Bool) (k : ℕ) (xs : List X) (n : ℕ) → Among (those_from test k xs) n → Passes test k xs n
those_have test k [] n h = absurd h
those_have test k (x ∷ xs) n h = ⊎_elim
    (λ l. let o = number_has k n (test x) l in (0, x, (let e = o.0 in omega arith), refl, o.1))
    (λ r. let o = those_have test (suc k) xs n r in (suc o.0, o.1, (let e = o.2 in omega arith), o.3, o.4))
    (among_append (number_if (test x) k) (those_from test (suc k) xs) n h)

has_number : (k : ℕ) (b : Bool) → b ≡ true → Among (number_if b k) k
has_number k true e = inl refl
has_number k false e = absurd (cc e)

some_same : {X : Type 0} (x y : X) → Some x ≡ Some y → x ≡ y
some_same x y e = cc e

pub have_those : {X : Type 0} (test : X → Bool) (k j : ℕ) (xs : List X) (x : X) → slice_get xs j ≡ Some x → test x ≡ true → Among (those_from test k xs) (k + j)
have_those test k j [] x e h = absurd (cc e)
have_those test k zero (y ∷ ys) x e h =
    among_left (number_if (test y) k) (those_from test (suc k) ys) (k + 0)
    (subst (λ n. Among (number_if (test y) k) n) (let q : k ≡ k + 0 = omega arith in q) (has_number k (test y) (ap test (some_same y x e) ∙ h)))
have_those test k (suc j) (y ∷ ys) x e h =
    among_right (number_if (test y) k) (those_from test (suc k) ys) (k + suc j)
    (subst (λ n. Among (those_from test (suc k) ys) n) (let q : suc k + j ≡ k + suc j = omega arith in q) (have_those test (suc k) j ys x e h))

pub those_same : {X : Type 0} (test other : X → Bool) (k : ℕ) (xs : List X) → ((x : X) → test x ≡ other x) → those_from test k xs ≡ those_from other k xs
those_same test other k [] h = refl
those_same test other k (x ∷ xs) h =
    ap (λ (ns : List ℕ). number_if (test x) k ++ ns) (those_same test other (suc k) xs h) ∙ ap (λ b. number_if b k ++ those_from other (suc k) xs) (h x)
