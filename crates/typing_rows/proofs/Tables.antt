-- What the code finds in its tables is what the definitions find in theirs.
use Rattle.std.proofs.Common.{◌≡◌, ℕ, List, [], ◌∷◌, Some, Bool, true, false, ◌||◌, refl, ap, ◌∙◌, map, option_map, find, nat_eq, cond, Bor}
use Rattle.std.specs.List.{list_any}
use Rattle.std.specs.Cmp.Lexicographic.{pointwise}
use Rattle.typing_rows.specs.Library.{look_up}
use Rattle.typing_rows.specs.LibraryNames.{is_among}

-- ---- rows of words

abbrev read_rows : {A : Type 0} → List (Bor (List ℕ) × A) → List (List ℕ × A)
read_rows rows = map (λ r. (r.0.now, r.1)) rows

found_rows : {A : Type 0} (rows : List (Bor (List ℕ) × A)) (w : List ℕ) → option_map (λ r. r.1) (find (λ r. pointwise nat_eq w r.0.now) rows) ≡ look_up (read_rows rows) w
found_rows [] w = refl
found_rows (r ∷ rows) w = go (pointwise nat_eq w r.0.now) (found_rows rows w)
  where
    go : (b : Bool) → option_map (λ r. r.1) (find (λ r. pointwise nat_eq w r.0.now) rows) ≡ look_up (read_rows rows) w → option_map (λ r. r.1) (cond b (Some r) (find (λ r. pointwise nat_eq w r.0.now) rows)) ≡ option_map (λ r. r.1) (cond b (Some (r.0.now, r.1)) (find (λ r. pointwise nat_eq w r.0) (read_rows rows)))
    go true e = refl
    go false e = e

pub row_found : {A : Type 0} (rows : List (Bor (List ℕ) × A)) (table : List (List ℕ × A)) (w : List ℕ) → map (λ r. (r.0.now, r.1)) rows ≡ table → option_map (λ r. r.1) (find (λ r. pointwise nat_eq w r.0.now) rows) ≡ look_up table w
row_found rows table w same = found_rows rows w ∙ ap (λ x. look_up x w) same

-- ---- words

found_words : (names : List (Bor (List ℕ))) (w : List ℕ) → list_any (λ n. pointwise nat_eq w n.now) names ≡ is_among w (map (λ n. n.now) names)
found_words [] w = refl
found_words (n ∷ names) w = ap (λ rest. pointwise nat_eq w n.now || rest) (found_words names w)

pub word_found : (names : List (Bor (List ℕ))) (table : List (List ℕ)) (w : List ℕ) → map (λ n. n.now) names ≡ table → list_any (λ n. pointwise nat_eq w n.now) names ≡ is_among w table
word_found names table w same = found_words names w ∙ ap (is_among w) same
