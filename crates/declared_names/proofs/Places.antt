-- The first place in a list at which one of several tests passes.
use Rattle.std.proofs.Common.{◌≡◌, ℕ, ◌+◌, ◌≤◌, Bool, true, false, cond, List, [], ◌∷◌, refl, ap, sym, ◌∙◌, arith, ◌||◌, ◌&&◌}
use Rattle.std.specs.Prelude.{position, not, nat_le, Option, Some, None}
use Rattle.std.specs.List.{position_from}
use Rattle.std.proofs.lemmas.Bool.{le-leb, leb-true}
use Rattle.std.proofs.lemmas.Iterator.Adapters.{position_from-zero}
use Rattle.declared_names.specs.Rivals.{least}

abbrev not_before : ℕ → Option ℕ → Bool
not_before k None = true
not_before k (Some i) = nat_le k i

one_before : (b : Bool) (k i : ℕ) (o : Option ℕ) → k ≤ i → not_before k o ≡ true → not_before k (cond b (Some i) o) ≡ true
one_before true k i o h rest = le-leb k i h
one_before false k i o h rest = rest

from_after : {X : Type 0} (t : X → Bool) (xs : List X) (k i : ℕ) → k ≤ i → not_before k (position_from t i xs) ≡ true
from_after t [] k i h = refl
from_after t (x ∷ xs) k i h =
    let more : k ≤ i + 1 = omega (arith, h) in one_before (t x) k i (position_from t (i + 1) xs) h (from_after t xs k (i + 1) more)

-- a place that is no later is the less one
own_first : (i : ℕ) (o : Option ℕ) → not_before i o ≡ true → Some i ≡ least (Some i) o
own_first i None h = refl
own_first i (Some k) h = ap (λ b. cond b (Some i) (Some k)) (sym h)

other_first : (i : ℕ) (o : Option ℕ) → not_before i o ≡ true → Some i ≡ least o (Some i)
other_first i None h = refl
other_first i (Some k) h = by (nat_le k i) refl
  where
    by : (b : Bool) → nat_le k i ≡ b → Some i ≡ cond b (Some k) (Some i)
    by true e = let same : i ≡ k = omega (arith, leb-true i k h, leb-true k i e) in ap Some same
    by false e = refl

one_first : (a b : Bool) (i : ℕ) (o p : Option ℕ) → not_before i o ≡ true → not_before i p ≡ true
    → cond (a || b) (Some i) (least o p) ≡ least (cond a (Some i) o) (cond b (Some i) p)
one_first true true i o p later after = let same : i ≤ i = omega arith in own_first i (Some i) (le-leb i i same)
one_first true false i o p later after = own_first i p after
one_first false true i o p later after = other_first i o later
one_first false false i o p later after = refl

from_either : {X : Type 0} (p q : X → Bool) (xs : List X) (i : ℕ) → position_from (λ x. p x || q x) i xs ≡ least (position_from p i xs) (position_from q i xs)
from_either p q [] i = refl
from_either p q (x ∷ xs) i =
    let more : i ≤ i + 1 = omega arith in
    ap (cond (p x || q x) (Some i)) (from_either p q xs (i + 1))
    ∙ one_first (p x) (q x) i (position_from p (i + 1) xs) (position_from q (i + 1) xs) (from_after p xs i (i + 1) more) (from_after q xs i (i + 1) more)

pub of_either : {X : Type 0} (p q : X → Bool) (xs : List X) → position (λ x. p x || q x) xs ≡ least (position p xs) (position q xs)
of_either p q xs =
    position_from-zero (λ x. p x || q x) xs ∙ from_either p q xs 0
    ∙ ap (λ o. least o (position_from q 0 xs)) (sym (position_from-zero p xs))
    ∙ ap (least (position p xs)) (sym (position_from-zero q xs))

pub of_four : {X : Type 0} (p q r s : X → Bool) (xs : List X)
    → position (λ x. p x || (q x || (r x || s x))) xs ≡ least (position p xs) (least (position q xs) (least (position r xs) (position s xs)))
of_four p q r s xs =
    of_either p (λ x. q x || (r x || s x)) xs
    ∙ ap (least (position p xs)) (of_either q (λ x. r x || s x) xs ∙ ap (least (position q xs)) (of_either r s xs))

from_nowhere : {X : Type 0} (xs : List X) (i : ℕ) → position_from (λ (x : X). false) i xs ≡ None
from_nowhere [] i = refl
from_nowhere (x ∷ xs) i = from_nowhere xs (i + 1)

pub nowhere : {X : Type 0} (xs : List X) → position (λ (x : X). false) xs ≡ None
nowhere xs = position_from-zero (λ x. false) xs ∙ from_nowhere xs 0

-- a test that is left out
pub unless : {X : Type 0} (b : Bool) (p : X → Bool) (xs : List X) → position (λ x. not b && p x) xs ≡ cond b None (position p xs)
unless true p xs = nowhere xs
unless false p xs = refl
