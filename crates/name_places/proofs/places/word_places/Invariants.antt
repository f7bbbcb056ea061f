use Rattle.std.proofs.Common.{◌≡◌, ℕ, take}
use Rattle.std.specs.Prelude.{position}
use Rattle.indexmap.specs.IndexMap.{get}
use Rattle.name_places.specs.declared.places.Row.{Row}
use Rattle.name_places.specs.Places.{has_word, is_same_pair, keyed}
use Rattle.name_places.proofs.places.word_places.Given as goal

abbrev pub invariant-loop-i : goal.invariant-loop-i
invariant-loop-i l = (h w : ℕ) → get is_same_pair l.places (h, w) ≡ position (λ (r : Row). has_word l.fn.words h w (keyed r)) (take l.i l.rows)
