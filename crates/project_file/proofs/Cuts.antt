-- Cuts of a text: its first line, and comparisons unit by unit.
use Rattle.std.proofs.Common.{◌≡◌, ℕ, ◌+◌, ◌<◌, ◌≤◌, Bool, true, false, ◌&&◌, cond, ◌==◌, nat_eq, List, [], ◌∷◌, length, map, take, drop, refl, ap, arith, nat_lt, one-add, Option, Some, None, unwrap_or, option_map, ◌-◌}
use Rattle.std.specs.List.{position_or_len, position, onto_first, list_all, zip}
use Rattle.std.specs.Cmp.Lexicographic.{pointwise}
use Rattle.std.proofs.lemmas.List.Sums.{prefix_len-le-length}
use Rattle.std.proofs.lemmas.List.{take_rest}
use Rattle.vb_tree.specs.ProjectLines.{lines_of, parted}
use Rattle.project_file.specs.Lines.{is_line_end, past_line_end}

-- where the first line of a text ends
abbrev pub end_of : List ℕ → ℕ
end_of text = position_or_len is_line_end text

-- a text is its first line and then those after that line's end
abbrev pub IsCut : List ℕ → Type 0
IsCut text = lines_of text ≡ take (end_of text) text ∷ lines_of (past_line_end (drop (end_of text) text))

feed_follows : (c d : ℕ) (ds : List ℕ) (f : Bool) → (d == 10) ≡ f → (c == 10) ≡ false → (c == 13) ≡ true → IsCut (c ∷ d ∷ ds)
feed_follows c d ds true f a b = simp (a, b, f)
feed_follows c d ds false f a b = simp (a, b, f)

first_by : (a b : Bool) (c : ℕ) (cs : List ℕ) → (c == 10) ≡ a → (c == 13) ≡ b → (0 < length cs → IsCut cs) → IsCut (c ∷ cs)
first_by true b c cs p q more = let n : (c == 13) ≡ false = grind arith in simp (p, n)
first_by false true c [] p q more = simp (p, q)
first_by false true c (d ∷ ds) p q more = feed_follows c d ds (d == 10) refl p q
first_by false false c [] p q more = simp (p, q)
first_by false false c (d ∷ ds) p q more = let e = more (omega arith) in rw (p, q) (rw (one-add (end_of (d ∷ ds))) (ap (onto_first c) e))

pub first_cut : (text : List ℕ) → 0 < length text → IsCut text
first_cut [] h = absurd (omega arith)
first_cut (c ∷ cs) h = first_by (c == 10) (c == 13) c cs refl refl (first_cut cs)

-- the place of a first unit, as the search for it gives it
pub found_or_end : (p : ℕ → Bool) (cs : List ℕ) → unwrap_or (position p cs) (length cs) ≡ position_or_len p cs
found_or_end p cs = by (nat_lt (position_or_len p cs) (length cs)) refl
  where
    by : (b : Bool) → nat_lt (position_or_len p cs) (length cs) ≡ b → unwrap_or (cond b (Some (position_or_len p cs)) None) (length cs) ≡ position_or_len p cs
    by true e = refl
    by false e = let h : position_or_len p cs ≤ length cs = prefix_len-le-length _ cs in grind (arith, h)

-- lists of one length are the same unit by unit where each pair is
pub pairs_same : (f : ℕ → ℕ) (xs ys : List ℕ) → length xs ≡ length ys → pointwise nat_eq (map f xs) ys ≡ list_all (λ (p : ℕ × ℕ). f p.0 == p.1) (zip xs ys)
pairs_same f [] [] e = refl
pairs_same f [] (y ∷ ys) e = absurd (omega arith)
pairs_same f (x ∷ xs) [] e = absurd (omega arith)
pairs_same f (x ∷ xs) (y ∷ ys) e = ap (λ b. (f x == y) && b) (pairs_same f xs ys (omega arith))

-- a text that is cut at the first such sign
pub parted_at : (sign : ℕ) (text : List ℕ) (at : ℕ) → Some at ≡ position (λ c. c == sign) text → Some (take at text, take (length text - (at + 1)) (drop (at + 1) text)) ≡ parted sign text
parted_at sign text at e = rw (take_rest text (at + 1)) (ap (λ (o : Option ℕ). option_map (λ at. (take at text, drop (at + 1) text)) o) e)

pub parted_nowhere : (sign : ℕ) (text : List ℕ) → None ≡ position (λ c. c == sign) text → None ≡ parted sign text
parted_nowhere sign text e = ap (λ (o : Option ℕ). option_map (λ at. (take at text, drop (at + 1) text)) o) e
