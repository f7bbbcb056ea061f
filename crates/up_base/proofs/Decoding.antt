-- The first byte without a character.
use Rattle.std.proofs.Common.{◌≡◌, ℕ, zero, suc, ◌<◌, true, ltb, List, [], ◌∷◌, map, length, take, get_or, Option, Some, None, is_none, refl, arith, one-add}
use Rattle.std.proofs.lemmas.Bool.{lt-ltb}
use Rattle.std.specs.List.{position, position_or_len}
use Rattle.up_base.specs.Windows1252.{unit_of, is_undefined, AreUnits}

-- where f has values at the elements before a place and none there, that place is the first without a value
place-first : (f : ℕ → Option ℕ) (xs values : List ℕ) (i : ℕ) → map Some values ≡ map f (take i xs) → i < length xs → f (get_or xs i 0) ≡ None → position_or_len (λ x. is_none (f x)) xs ≡ i
place-first f [] values i before h here = absurd (omega arith)
place-first f (x ∷ xs) values zero before h here = rw here refl
place-first f (x ∷ xs) [] (suc i) before h here = cc
place-first f (x ∷ xs) (v ∷ values) (suc i) before h here =
    let first : f x ≡ Some v = cc in
    let rest : map Some values ≡ map f (take i xs) = cc in
    rw (first, place-first f xs values i rest (omega arith) here, one-add) refl

pub first_undefined : (bytes units : List ℕ) (i : ℕ) → AreUnits (take i bytes) units → i < length bytes → unit_of (get_or bytes i 0) ≡ None → position is_undefined bytes ≡ Some i
first_undefined bytes units i before h here =
    let place = place-first unit_of bytes units i before h here in
    let below : ltb i (length bytes) ≡ true = lt-ltb i (length bytes) h in
    rw (place, below) refl
