-- Lists of procedures that are numbered one after the other.
use Rattle.std.specs.Prelude.{◌≡◌, ℕ, suc, List, [], ◌∷◌}
use Rattle.run_matches.specs.Sites.{Site}

abbrev pub AreNumbered : (first : ℕ) → List Site → Type 0
AreNumbered n [] = Unit {0}
AreNumbered n (s ∷ ss) = (s.placed.at.procedure ≡ n) × AreNumbered (suc n) ss
