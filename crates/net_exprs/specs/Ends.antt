-- Where parts of a line end: whether what follows can't belong to the part.
use Rattle.std.specs.Prelude.{ℕ, Bool, true, false, not, ◌&&◌, ◌==◌, List, [], ◌∷◌}
use Rattle.net_tree.specs.Spelling.{is_word_part}

-- whether a text begins with a character
abbrev pub begins_with : ℕ → List ℕ → Bool
begins_with c [] = false
begins_with c (d ∷ s) = d == c

-- whether a word, a name or a number ends before it
abbrev pub ends_name : List ℕ → Bool
ends_name [] = true
ends_name (c ∷ s) = not (is_word_part c)

-- a path goes on with a full stop
abbrev pub ends_path : List ℕ → Bool
ends_path s = ends_name s && not (begins_with 46 s)

-- a type goes on with the parentheses of an array
abbrev pub ends_type : List ℕ → Bool
ends_type s = ends_path s && not (begins_with 40 s)

-- whether the braces of an array that is made may stand there
abbrev pub begins_braces : List ℕ → Bool
begins_braces [] = false
begins_braces (c ∷ s) = c == 32 && begins_with 123 s

-- a text goes on with a quote, and what is made anew with braces
abbrev pub ends_expression : List ℕ → Bool
ends_expression s = ends_type s && not (begins_with 34 s) && not (begins_braces s)
