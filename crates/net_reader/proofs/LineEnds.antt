-- What is left of a line without its end.
use Rattle.std.proofs.Common.{◌≡◌, ◌≢◌, ℕ, cond, List, [], ◌∷◌, ◌++◌, length, refl, ap, arith, length-append}
use Rattle.std.specs.Cmp.Lexicographic.{bytes_decides}
use Rattle.up_base.specs.LineEnd.{line_end}
use Rattle.net_tree.specs.Spelling.{is_same_text}
use Rattle.net_exprs.proofs.Words.{by_test}
use Rattle.net_reader.specs.FileLines.{without_end}

too_long : (c : ℕ) (x : List ℕ) → c ∷ x ++ line_end ≢ line_end
too_long c x e =
    let same : length (c ∷ x ++ line_end) ≡ 2 = ap length e in
    omega (arith, same, length-append x line_end)

pub end_cut : (x : List ℕ) → without_end (x ++ line_end) ≡ x
end_cut [] = refl
end_cut (c ∷ x) =
    by_test (is_same_text (c ∷ x ++ line_end) line_end) (λ b. cond b [] (c ∷ without_end (x ++ line_end)) ≡ c ∷ x)
    (λ t. absurd (too_long c x ((bytes_decides (c ∷ x ++ line_end) line_end).0 t))) (λ f. ap (λ y. c ∷ y) (end_cut x))

pub end_kept : (s : List ℕ) → ((front : List ℕ) → s ≢ front ++ line_end) → without_end s ≡ s
end_kept [] h = refl
end_kept (c ∷ s) h =
    by_test (is_same_text (c ∷ s) line_end) (λ b. cond b [] (c ∷ without_end s) ≡ c ∷ s)
    (λ t. absurd (h [] ((bytes_decides (c ∷ s) line_end).0 t)))
    (λ f. ap (λ y. c ∷ y) (end_kept s (λ front e. h (c ∷ front) (ap (λ y. c ∷ y) e))))
