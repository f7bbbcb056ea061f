-- The comments up to a line and before one are first parts of the comments.
use Rattle.std.proofs.Common.{◌≡◌, ℕ, Bool, true, false, cond, List, [], ◌∷◌, length, take, refl, ap}
use Rattle.std.specs.Prelude.{nat_le, nat_lt}
use Rattle.written_trees.specs.Comments.{Comment, up_to, before}

pub first_up_to : (n : ℕ) (cs : List Comment) → take (length (up_to n cs)) cs ≡ up_to n cs
first_up_to n [] = refl
first_up_to n (c ∷ cs) = by_test (nat_le c.0 n) (first_up_to n cs)
  where
    by_test : (p : Bool) → take (length (up_to n cs)) cs ≡ up_to n cs → take (length (cond p (c ∷ up_to n cs) [])) (c ∷ cs) ≡ cond p (c ∷ up_to n cs) []
    by_test true h = ap (λ xs. c ∷ xs) h
    by_test false h = refl

pub first_before : (n : ℕ) (cs : List Comment) → take (length (before n cs)) cs ≡ before n cs
first_before n [] = refl
first_before n (c ∷ cs) = by_test (nat_lt c.0 n) (first_before n cs)
  where
    by_test : (p : Bool) → take (length (before n cs)) cs ≡ before n cs → take (length (cond p (c ∷ before n cs) [])) (c ∷ cs) ≡ cond p (c ∷ before n cs) []
    by_test true h = ap (λ xs. c ∷ xs) h
    by_test false h = refl
