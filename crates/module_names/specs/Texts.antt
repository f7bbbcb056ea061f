-- Units that stand alone.
use Rattle.std.specs.Prelude.{ℕ, Bool, not, List}
use Rattle.std.specs.List.{list_all}
use Rattle.net_tree.specs.Comments.{is_surrogate}

-- a unit that is no surrogate, so that it is a character by itself
abbrev pub is_single : ℕ → Bool
is_single u = not (is_surrogate u)

abbrev pub are_single : List ℕ → Bool
are_single units = list_all is_single units
