-- The words of the code's table are the reserved ones.
use Rattle.std.proofs.Common.{◌≡◌, ℕ, List, [], ◌∷◌, Some, Bool, true, false, ◌||◌, not, refl, ap, ◌∙◌, map, nat_eq, cond, Bor}
use Rattle.std.specs.Prelude.{is_none}
use Rattle.std.specs.List.{list_any}
use Rattle.std.specs.Cmp.Lexicographic.{pointwise}
use Rattle.up_base.specs.Names.{lower_case}
use Rattle.vb_tree.specs.Expressions.{Keyword, keywords, keyword_of, keyword_in}
use Rattle.vb_lines.specs.Statements.{is_free}

read_words : (words : List (Bor (List ℕ))) (w : List ℕ) → list_any (λ r. pointwise nat_eq w r.now) words ≡ list_any (λ r. pointwise nat_eq w r) (map (λ r. r.now) words)
read_words [] w = refl
read_words (r ∷ rs) w = ap (λ b. pointwise nat_eq w r.now || b) (read_words rs w)

found_words : (ks : List (List ℕ × Keyword)) (w : List ℕ) → not (list_any (λ r. pointwise nat_eq w r) (map (λ k. k.0) ks)) ≡ is_none (keyword_in ks w)
found_words [] w = refl
found_words (k ∷ ks) w = by (pointwise nat_eq w k.0) (found_words ks w)
  where
    by : (b : Bool) → not (list_any (λ r. pointwise nat_eq w r) (map (λ k. k.0) ks)) ≡ is_none (keyword_in ks w) → not (b || list_any (λ r. pointwise nat_eq w r) (map (λ k. k.0) ks)) ≡ is_none (cond b (Some k.1) (keyword_in ks w))
    by true e = refl
    by false e = e

pub free_word : (words : List (Bor (List ℕ))) (name : List ℕ) → map (λ r. r.now) words ≡ map (λ k. k.0) keywords → not (list_any (λ r. pointwise nat_eq (lower_case name) r.now) words) ≡ is_free name
unfolding keyword_of
free_word words name e =
    let w = lower_case name in
    ap not (read_words words w ∙ ap (λ xs. list_any (λ r. pointwise nat_eq w r) xs) e) ∙ found_words keywords w
