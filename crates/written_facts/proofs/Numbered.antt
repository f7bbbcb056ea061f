-- Lists of an item for each number.
use Rattle.std.proofs.Common.{◌≡◌, ℕ, ◌+◌, ◌<◌, ◌≤◌, List, [], ◌∷◌, ◌++◌, map, ap, sym, ◌∙◌, arith, Some, None}
use Rattle.std.specs.Prelude.{slice_get}
use Rattle.std.specs.List.{range_with_len}
use Rattle.std.proofs.lemmas.List.FromFn.{get_or-map-range_with_len, length-map-range_with_len, map-range_with_len_more}
use Rattle.std.proofs.lemmas.Option.{slice_get-get_or, slice_get_past}

pub numbered : {X : Type 0} (f : ℕ → X) → (n k : ℕ) → k < n → slice_get (map f (range_with_len 0 n)) k ≡ Some (f k)
numbered f n k low =
    slice_get-get_or (map f (range_with_len 0 n)) k (f k) (omega (arith, low, length-map-range_with_len f 0 n))
    ∙ ap Some (get_or-map-range_with_len f 0 n k k (f k) low (omega arith))

pub none_behind : {X : Type 0} (f : ℕ → X) → (n k : ℕ) → n ≤ k → slice_get (map f (range_with_len 0 n)) k ≡ None
none_behind f n k past = slice_get_past (map f (range_with_len 0 n)) k (omega (arith, past, length-map-range_with_len f 0 n))

-- an item is put behind those before it
pub one_more : {X : Type 0} (f : ℕ → X) → (k : ℕ) (new old : List X) (x : X) → new ≡ old ++ x ∷ [] → old ≡ map f (range_with_len 0 k) → x ≡ f k → new ≡ map f (range_with_len 0 (k + 1))
one_more f k new old x put before is =
    put ∙ ap (λ xs. xs ++ x ∷ []) before ∙ ap (λ y. map f (range_with_len 0 k) ++ y ∷ []) is ∙ sym (map-range_with_len_more f 0 k k (omega arith))
