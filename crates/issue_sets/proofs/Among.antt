-- Membership by recursion, and what joined, mapped and filtered lists have.
use Rattle.std.proofs.Common.{◌≡◌, ℕ, Bool, true, false, cond, List, [], ◌∷◌, ◌++◌, map, length, get_or, refl, ap, sym, subst, ◌∙◌, arith, inl, inr, ⊎_elim, zero, suc, ◌<◌}
use Rattle.std.specs.Prelude.{filter, ◌⊎◌}
use Rattle.std.specs.List.{Contains, flat_map}

abbrev pub Among : {X : Type 0} → List X → X → Type 0
Among [] x = ⊥
Among (y ∷ ys) x = (y ≡ x) ⊎ Among ys x

at_among : {X : Type 0} (xs : List X) (x : X) (k : ℕ) → k < length xs → get_or xs k x ≡ x → Among xs x
at_among [] x k l e = absurd (omega arith)
at_among (y ∷ ys) x zero l e = inl e
at_among (y ∷ ys) x (suc k) l e = inr (at_among ys x k (omega arith) e)

pub among : {X : Type 0} (xs : List X) (x : X) → Contains xs x → Among xs x
among xs x h = at_among xs x h.0 h.1 h.2

pub contains : {X : Type 0} (xs : List X) (x : X) → Among xs x → Contains xs x
contains [] x h = absurd h
contains (y ∷ ys) x (inl e) = (0, omega arith, e)
contains (y ∷ ys) x (inr h) = let c = contains ys x h in (suc c.0, (let l = c.1 in omega arith), c.2)

pub among_append : {X : Type 0} (xs ys : List X) (x : X) → Among (xs ++ ys) x → Among xs x ⊎ Among ys x
among_append [] ys x h = inr h
among_append (z ∷ zs) ys x (inl e) = inl (inl e)
among_append (z ∷ zs) ys x (inr h) = ⊎_elim (λ p. inl (inr p)) inr (among_append zs ys x h)

pub among_left : {X : Type 0} (xs ys : List X) (x : X) → Among xs x → Among (xs ++ ys) x
among_left [] ys x h = absurd h
among_left (z ∷ zs) ys x (inl e) = inl e
among_left (z ∷ zs) ys x (inr h) = inr (among_left zs ys x h)

pub among_right : {X : Type 0} (xs ys : List X) (x : X) → Among ys x → Among (xs ++ ys) x
among_right [] ys x h = h
among_right (z ∷ zs) ys x h = inr (among_right zs ys x h)

-- what passes, mapped
abbrev pub Picked : {X Y : Type 0} → (X → Y) → (X → Bool) → List X → Y → Type 0
Picked {X} g p xs y = (x : X) × Among xs x × (p x ≡ true) × (g x ≡ y)

picked_one : {X Y : Type 0} (g : X → Y) (p : X → Bool) (x : X) (xs : List X) (y : Y) (b : Bool) → p x ≡ b → (Among (map g (filter p xs)) y → Picked g p xs y)
    → Among (map g (cond b (x ∷ filter p xs) (filter p xs))) y → Picked g p (x ∷ xs) y
picked_one g p x xs y true e more (inl h) = (x, inl refl, e, h)
picked_one g p x xs y true e more (inr h) = let m = more h in (m.0, inr m.1, m.2, m.3)
picked_one g p x xs y false e more h = let m = more h in (m.0, inr m.1, m.2, m.3)

pub picked : {X Y : Type 0} (g : X → Y) (p : X → Bool) (xs : List X) (y : Y) → Among (map g (filter p xs)) y → Picked g p xs y
picked g p [] y h = absurd h
picked g p (x ∷ xs) y h = picked_one g p x xs y (p x) refl (picked g p xs y) h

pick_one : {X Y : Type 0} (g : X → Y) (x : X) (xs : List X) (y : Y) (b : Bool) → Among (map g xs) y → Among (map g (cond b (x ∷ xs) xs)) y
pick_one g x xs y true h = inr h
pick_one g x xs y false h = h

pub pick : {X Y : Type 0} (g : X → Y) (p : X → Bool) (xs : List X) (x : X) → Among xs x → p x ≡ true → Among (map g (filter p xs)) (g x)
pick g p [] x h e = absurd h
pick g p (z ∷ zs) x (inl h) e = subst (λ b. Among (map g (cond b (z ∷ filter p zs) (filter p zs))) (g x)) (sym (ap p h ∙ e)) (inl (ap g h))
pick g p (z ∷ zs) x (inr h) e = pick_one g z (filter p zs) (g x) (p z) (pick g p zs x h e)

-- what a list of lists has
pub among_flat : {X Y : Type 0} (f : X → List Y) (xs : List X) (y : Y) → Among (flat_map f xs) y → (x : X) × Among xs x × Among (f x) y
among_flat f [] y h = absurd h
among_flat f (x ∷ xs) y h = ⊎_elim (λ p. (x, inl refl, p)) (λ q. let m = among_flat f xs y q in (m.0, inr m.1, m.2)) (among_append (f x) (flat_map f xs) y h)

pub flat_among : {X Y : Type 0} (f : X → List Y) (xs : List X) (x : X) (y : Y) → Among xs x → Among (f x) y → Among (flat_map f xs) y
flat_among f [] x y h e = absurd h
flat_among f (z ∷ zs) x y (inl h) e = among_left (f z) (flat_map f zs) y (subst (λ w. Among (f w) y) (sym h) e)
flat_among f (z ∷ zs) x y (inr h) e = among_right (f z) (flat_map f zs) y (flat_among f zs x y h e)
