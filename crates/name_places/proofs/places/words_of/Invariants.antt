use Rattle.std.proofs.Common.{◌≡◌, ℕ, List, take}
use Rattle.std.specs.Prelude.{position}
use Rattle.name_places.specs.declared.places.Row.{Row}
use Rattle.name_places.specs.Places.{is_housed, keyed, noted}
use Rattle.name_places.proofs.places.words_of.Given as goal

abbrev pub invariant-loop-i : goal.invariant-loop-i
invariant-loop-i l = (key : List ℕ) → noted l.words key ≡ position (λ (r : Row). is_housed key (keyed r)) (take l.i l.rows)
