-- Lines without a fault that are seen at one glance.
use Rattle.std.specs.Prelude.{ℕ, Bool, false, not, ◌&&◌, ◌||◌, ◌==◌, nat_le, List, Option, Some, None}
use Rattle.std.specs.List.{list_all}

-- neither a control unit nor a line end
abbrev pub is_plain : ℕ → Bool
is_plain c = (nat_le 32 c && not (c == 127)) || c == 9

-- no directive, no place where no token begins, and plain units alone
abbrev pub is_clean : (directive stop : Option ℕ) → List ℕ → Bool
is_clean (Some place) stop units = false
is_clean None (Some place) units = false
is_clean None None units = list_all is_plain units
