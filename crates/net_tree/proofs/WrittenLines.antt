-- A text line by line.
use Rattle.std.proofs.Common.{ℕ, List, ◌++◌}
use Rattle.std.specs.List.{flat_map}
use Rattle.up_base.specs.LineEnd.{line_end}

abbrev pub text_of : List (List ℕ) → List ℕ
text_of lines = flat_map (λ line. line ++ line_end) lines
