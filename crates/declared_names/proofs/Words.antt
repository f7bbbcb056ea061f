-- A word among words that are lent.
use Rattle.std.proofs.Common.{◌≡◌, ℕ, refl, ap, List, [], ◌∷◌, map, nat_eq}
use Rattle.std.specs.Prelude.{◌||◌}
use Rattle.std.specs.Borrow.{Bor}
use Rattle.std.specs.List.{list_any}
use Rattle.std.specs.Cmp.Lexicographic.{pointwise}

pub any_shown : (word : List ℕ) (words : List (Bor (List ℕ)))
    → list_any (λ t. pointwise nat_eq word t.now) words ≡ list_any (λ t. pointwise nat_eq word t) (map (λ t. t.now) words)
any_shown word [] = refl
any_shown word (t ∷ ts) = ap (λ b. pointwise nat_eq word t.now || b) (any_shown word ts)
