-- The line end at the front of a text.
use Rattle.std.specs.Prelude.{ℕ, Bool, not, ◌&&◌, ◌==◌, if◌then◌else◌, List, [], ◌∷◌, ◌++◌}
use Rattle.vb_tree.specs.Tokens.{is_line_end}

abbrev pub in_line : ℕ → Bool
in_line c = not (is_line_end c)

-- how many units the line end at the front takes
abbrev pub line_end_units : List ℕ → ℕ
line_end_units [] = 0
line_end_units (c ∷ []) = 1
line_end_units (c ∷ d ∷ text) = if c == 13 && d == 10 then 2 else 1

-- units before the first of some lines
abbrev pub onto_first : List ℕ → List (List ℕ) → List (List ℕ)
onto_first units [] = units ∷ []
onto_first units (line ∷ lines) = (units ++ line) ∷ lines
