-- Lists by their items.
use Rattle.std.proofs.Common.{◌≡◌, ℕ, zero, suc, ◌+◌, List, [], ◌∷◌, ◌++◌, length, Some, slice_get, refl, sym, ap, subst, ◌∙◌, length-append, arith}
use Rattle.std.specs.List.{AllByRecursion as Each, Contains, flat_map}
use Rattle.std.proofs.lemmas.Option.{same_Some, none-some}

pub each_append : {X : Type 0} (P : X → Type 0) (xs ys : List X) → Each P xs → Each P ys → Each P (xs ++ ys)
each_append P [] ys h k = k
each_append P (x ∷ xs) ys h k = (h.0, each_append P xs ys h.1 k)

pub each_left : {X : Type 0} (P : X → Type 0) (xs ys : List X) → Each P (xs ++ ys) → Each P xs
each_left P [] ys h = tt
each_left P (x ∷ xs) ys h = (h.0, each_left P xs ys h.1)

pub each_right : {X : Type 0} (P : X → Type 0) (xs ys : List X) → Each P (xs ++ ys) → Each P ys
each_right P [] ys h = h
each_right P (x ∷ xs) ys h = each_right P xs ys h.1

-- what holds of each item holds of the one of a number
pub each_got : {X : Type 0} (P : X → Type 0) (xs : List X) (i : ℕ) (x : X) → slice_get xs i ≡ Some x → Each P xs → P x
each_got P [] i x e h = absurd (none-some x e)
each_got P (y ∷ xs) zero x e h = subst P (same_Some y x e) h.0
each_got P (y ∷ xs) (suc i) x e h = each_got P xs i x e h.1

-- what follows item by item from two properties
pub each_joined : {X : Type 0} (P Q R : X → Type 0) → ((x : X) → P x → Q x → R x) → (xs : List X) → Each P xs → Each Q xs → Each R xs
each_joined P Q R f [] h k = tt
each_joined P Q R f (x ∷ xs) h k = (f x h.0 k.0, each_joined P Q R f xs h.1 k.1)

pub each_from : {X : Type 0} (P Q : X → Type 0) → ((x : X) → P x → Q x) → (xs : List X) → Each P xs → Each Q xs
each_from P Q f [] h = tt
each_from P Q f (x ∷ xs) h = (f x h.0, each_from P Q f xs h.1)

-- ---- items of lists in a row

next : (n i : ℕ) → suc n + i ≡ suc (n + i)
next n i = omega arith

behind : {X : Type 0} (xs ys : List X) (i : ℕ) → slice_get (xs ++ ys) (length xs + i) ≡ slice_get ys i
behind [] ys i = ap (λ (k : ℕ). slice_get ys k) (omega arith)
behind (x ∷ xs) ys i = ap (λ (k : ℕ). slice_get (x ∷ (xs ++ ys)) k) (next (length xs) i) ∙ behind xs ys i

pub got_behind : {X : Type 0} (xs ys : List X) (n i : ℕ) → length xs ≡ n → slice_get (xs ++ ys) (n + i) ≡ slice_get ys i
got_behind xs ys n i e = ap (λ (k : ℕ). slice_get (xs ++ ys) (k + i)) (sym e) ∙ behind xs ys i

pub got_before : {X : Type 0} (xs ys : List X) (i : ℕ) (x : X) → slice_get xs i ≡ Some x → slice_get (xs ++ ys) i ≡ Some x
got_before [] ys i x e = absurd (none-some x e)
got_before (y ∷ xs) ys zero x e = e
got_before (y ∷ xs) ys (suc i) x e = got_before xs ys i x e

-- an item, others, and an item
pub bracketed : {X : Type 0} (h c : X) (xs : List X) → length (h ∷ xs ++ c ∷ []) ≡ length xs + 2
bracketed h c xs = omega (arith, length-append xs (c ∷ []))

-- ---- what is in a list

pub here : {X : Type 0} (x : X) (xs : List X) → Contains (x ∷ xs) x
here x xs = (zero, omega arith, refl)

pub there : {X : Type 0} (x : X) (xs : List X) (y : X) → Contains xs y → Contains (x ∷ xs) y
there x xs y (k, l, e) = (suc k, omega (arith, l), e)

pub in_none : {X : Type 0} (x : X) → Contains [] x → ⊥
in_none x h = omega (arith, h.1)

pub each_contained : {X : Type 0} (P : X → Type 0) (xs : List X) (x : X) → Contains xs x → Each P xs → P x
each_contained P [] x i h = absurd (in_none x i)
each_contained P (y ∷ xs) x (zero, l, e) h = subst P e h.0
each_contained P (y ∷ xs) x (suc k, l, e) h = each_contained P xs x (k, omega (arith, l), e) h.1

-- what holds of each item that each of some items gives
pub each_flat : {A X : Type 0} (P : X → Type 0) (f : A → List X) (xs : List A) → Each (λ (a : A). Each P (f a)) xs → Each P (flat_map f xs)
each_flat P f [] h = tt
each_flat P f (a ∷ xs) h = each_append P (f a) (flat_map f xs) h.0 (each_flat P f xs h.1)
