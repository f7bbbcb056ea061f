-- The words that are written in brackets where they are names, by their first letter.
use Rattle.std.specs.Prelude.{ℕ, ◌+◌, Bool, false, ◌==◌, List, [], ◌∷◌, map, filter}
use Rattle.std.specs.List.{range_with_len}
use Rattle.net_tree.specs.Spelling.{bracketed_words}

abbrev pub begins_with : ℕ → List ℕ → Bool
begins_with c [] = false
begins_with c (d ∷ ds) = c == d

abbrev pub words_with : ℕ → List (List ℕ)
words_with c = filter (begins_with c) bracketed_words

-- those of each letter from a to z
abbrev pub words_by_letter : List (List (List ℕ))
words_by_letter = map words_with (range_with_len 97 26)
