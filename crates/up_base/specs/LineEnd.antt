-- How each line that is written or printed ends.
use Rattle.std.specs.Prelude.{ℕ, List, [], ◌∷◌}

abbrev pub line_end : List ℕ
line_end = 13 ∷ 10 ∷ []
