-- The first item of a list that passes a test, and its position.
use Rattle.std.proofs.Common.{◌≡◌, ℕ, suc, ◌+◌, ◌<◌, ◌≤◌, Bool, true, false, cond, List, [], ◌∷◌, ◌++◌, length, take, map, get_or, refl, ap, sym, ◌∙◌, arith, length-take-le, ◌||◌, is_some}
use Rattle.std.specs.Prelude.{position, find, nat_lt, Option, Some, None, slice_get}
use Rattle.std.specs.List.{list_any, position_from, position_or_len}
use Rattle.std.proofs.lemmas.Bool.{ltb-false}
use Rattle.std.proofs.lemmas.Iterator.Adapters.{position_from-zero}
use Rattle.std.proofs.lemmas.List.{take_all, take_more}
use Rattle.std.proofs.lemmas.List.Folds.{find_at}
use Rattle.std.proofs.lemmas.Option.{slice_get_past}
use Rattle.name_places.specs.Places.{first_of}

-- ---- a list that grows at its end

pub cond_first : {X : Type 0} (b : Bool) (i : X) (o p : Option X) → cond b (Some i) (first_of o p) ≡ first_of (cond b (Some i) o) p
cond_first true i o p = refl
cond_first false i o p = refl

from_push : {X : Type 0} (t : X → Bool) (i : ℕ) (xs : List X) (x : X) → position_from t i (xs ++ x ∷ []) ≡ first_of (position_from t i xs) (cond (t x) (Some (length xs + i)) None)
from_push t i [] x = let e : i ≡ 0 + i = omega arith in ap (λ n. cond (t x) (Some n) None) e
from_push t i (y ∷ ys) x =
    let e : length ys + (i + 1) ≡ suc (length ys) + i = omega arith in
    ap (cond (t y) (Some i)) (from_push t (i + 1) ys x ∙ ap (λ n. first_of (position_from t (i + 1) ys) (cond (t x) (Some n) None)) e)
    ∙ cond_first (t y) i (position_from t (i + 1) ys) _

position_more : {X : Type 0} (t : X → Bool) (xs : List X) (i : ℕ) (d : X) → i < length xs
    → position t (take (i + 1) xs) ≡ first_of (position t (take i xs)) (cond (t (get_or xs i d)) (Some i) None)
position_more t xs i d h =
    let p : i ≤ length xs = omega arith in
    let e = length-take-le i xs p in
    let l : length (take i xs) + 0 ≡ i = omega arith in
    ap (position t) (take_more xs i d h)
    ∙ position_from-zero t _ ∙ from_push t 0 (take i xs) (get_or xs i d)
    ∙ ap (λ n. first_of (position_from t 0 (take i xs)) (cond (t (get_or xs i d)) (Some n) None)) l
    ∙ ap (λ o. first_of o (cond (t (get_or xs i d)) (Some i) None)) (sym (position_from-zero t (take i xs)))

-- one item more is noted, where none was before it
pub note_step : {X : Type 0} (t : X → Bool) (xs : List X) (i : ℕ) (x : X) (old noted : Option ℕ) → i < length xs → x ≡ get_or xs i x → old ≡ position t (take i xs)
    → noted ≡ first_of old (cond (t x) (Some i) None) → noted ≡ position t (take (i + 1) xs)
note_step t xs i x old noted h here o n =
    n ∙ ap (λ y. first_of old (cond (t y) (Some i) None)) here
    ∙ ap (λ p. first_of p (cond (t (get_or xs i x)) (Some i) None)) o
    ∙ sym (position_more t xs i x h)

pub note_end : {X : Type 0} (t : X → Bool) (xs : List X) (i : ℕ) → length xs ≤ i → position t (take i xs) ≡ position t xs
note_end t xs i h = ap (position t) (take_all i xs h)

-- ---- other tests, other lists

from_like : {X : Type 0} (p q : X → Bool) → ((x : X) → p x ≡ q x) → (xs : List X) (i : ℕ) → position_from p i xs ≡ position_from q i xs
from_like p q same [] i = refl
from_like p q same (x ∷ xs) i =
    ap (λ b. cond b (Some i) (position_from p (i + 1) xs)) (same x) ∙ ap (cond (q x) (Some i)) (from_like p q same xs (i + 1))

pub position_like : {X : Type 0} (p q : X → Bool) → ((x : X) → p x ≡ q x) → (xs : List X) → position p xs ≡ position q xs
position_like p q same xs = position_from-zero p xs ∙ from_like p q same xs 0 ∙ sym (position_from-zero q xs)

from_map : {X Y : Type 0} (p : Y → Bool) (f : X → Y) (xs : List X) (i : ℕ) → position_from p i (map f xs) ≡ position_from (λ x. p (f x)) i xs
from_map p f [] i = refl
from_map p f (x ∷ xs) i = ap (cond (p (f x)) (Some i)) (from_map p f xs (i + 1))

pub position_map : {X Y : Type 0} (p : Y → Bool) (f : X → Y) (xs : List X) → position p (map f xs) ≡ position (λ x. p (f x)) xs
position_map p f xs = position_from-zero p (map f xs) ∙ from_map p f xs 0 ∙ sym (position_from-zero (λ x. p (f x)) xs)

none_here : {X : Type 0} (p q : X → Bool) (x : X) (i : ℕ) (b : Bool) → p x ≡ b → (p x ≡ false → q x ≡ false) → (r s : Option ℕ) → (r ≡ None → s ≡ None) → cond b (Some i) r ≡ None → cond (q x) (Some i) s ≡ None
none_here p q x i true e fewer r s rest g = cc
none_here p q x i false e fewer r s rest g = ap (λ b. cond b (Some i) s) (fewer e) ∙ rest g

from_none : {X : Type 0} (p q : X → Bool) → ((x : X) → p x ≡ false → q x ≡ false) → (xs : List X) (i : ℕ) → position_from p i xs ≡ None → position_from q i xs ≡ None
from_none p q fewer [] i h = refl
from_none p q fewer (x ∷ xs) i h = none_here p q x i (p x) refl (fewer x) (position_from p (i + 1) xs) (position_from q (i + 1) xs) (from_none p q fewer xs (i + 1)) h

pub position_none : {X : Type 0} (p q : X → Bool) → ((x : X) → p x ≡ false → q x ≡ false) → (xs : List X) → position p xs ≡ None → position q xs ≡ None
position_none p q fewer xs h = position_from-zero q xs ∙ from_none p q fewer xs 0 (sym (position_from-zero p xs) ∙ h)

any_here : (b : Bool) (i : ℕ) (r : Option ℕ) (rest : Bool) → is_some r ≡ rest → is_some (cond b (Some i) r) ≡ (b || rest)
any_here true i r rest e = refl
any_here false i r rest e = e

any_from : {X : Type 0} (p : X → Bool) (xs : List X) (i : ℕ) → is_some (position_from p i xs) ≡ list_any p xs
any_from p [] i = refl
any_from p (x ∷ xs) i = any_here (p x) i (position_from p (i + 1) xs) (list_any p xs) (any_from p xs (i + 1))

pub any_position : {X : Type 0} (p : X → Bool) (xs : List X) → is_some (position p xs) ≡ list_any p xs
any_position p xs = ap is_some (position_from-zero p xs) ∙ any_from p xs 0

-- ---- the item at a position

abbrev pub item_at : {X : Type 0} → List X → Option ℕ → Option X
item_at xs None = None
item_at xs (Some i) = slice_get xs i

at_place : {X : Type 0} (xs : List X) (n : ℕ) (b : Bool) → nat_lt n (length xs) ≡ b → slice_get xs n ≡ item_at xs (cond b (Some n) None)
at_place xs n true e = refl
at_place xs n false e = slice_get_past xs n (ltb-false n (length xs) e)

pub find_first : {X : Type 0} (p : X → Bool) (xs : List X) → find p xs ≡ item_at xs (position p xs)
find_first p xs = find_at p xs ∙ at_place xs (position_or_len p xs) (nat_lt (position_or_len p xs) (length xs)) refl
