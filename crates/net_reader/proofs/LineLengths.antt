-- The lines of a text by the length of the first, and how many there are.
use Rattle.std.proofs.Common.{◌≡◌, ℕ, suc, ◌≤◌, ◌<◌, cond, eqb, List, [], ◌∷◌, length, take, drop, refl, ap, arith}
use Rattle.net_exprs.proofs.Words.{by_test}
use Rattle.net_reader.specs.FileLines.{file_lines, line_length, onto_first}

first_from : (c : ℕ) (cs : List ℕ) → file_lines (c ∷ cs) ≡ take (line_length (c ∷ cs)) (c ∷ cs) ∷ file_lines (drop (line_length (c ∷ cs)) (c ∷ cs))
first_from c [] =
    by_test (eqb c 10) (λ b. cond b ((c ∷ []) ∷ []) (onto_first c []) ≡ take (cond b 1 1) (c ∷ []) ∷ file_lines (drop (cond b 1 1) (c ∷ [])))
    (λ t. refl) (λ f. refl)
first_from c (d ∷ cs) =
    by_test (eqb c 10) (λ b. cond b ((c ∷ []) ∷ file_lines (d ∷ cs)) (onto_first c (file_lines (d ∷ cs))) ≡ take (cond b 1 (suc (line_length (d ∷ cs)))) (c ∷ d ∷ cs) ∷ file_lines (drop (cond b 1 (suc (line_length (d ∷ cs)))) (c ∷ d ∷ cs)))
    (λ t. refl) (λ f. ap (onto_first c) (first_from d cs))

pub first_line : (text : List ℕ) → 0 < length text → file_lines text ≡ take (line_length text) text ∷ file_lines (drop (line_length text) text)
first_line [] h = absurd (omega (arith, h))
first_line (c ∷ cs) h = first_from c cs

pub some_line : (text : List ℕ) → 0 < length text → 0 < line_length text
some_line [] h = absurd (omega (arith, h))
some_line (c ∷ cs) h = by_test (eqb c 10) (λ b. 0 < cond b 1 (suc (line_length cs))) (λ t. omega arith) (λ f. omega arith)

onto_count : (c : ℕ) (lines : List (List ℕ)) → length (onto_first c lines) ≤ suc (length lines)
onto_count c [] = omega arith
onto_count c (line ∷ lines) = omega arith

-- a text has no more lines than bytes
pub lines_within : (text : List ℕ) → length (file_lines text) ≤ length text
lines_within [] = omega arith
lines_within (c ∷ cs) =
    let fewer = lines_within cs in
    by_test (eqb c 10) (λ b. length (cond b ((c ∷ []) ∷ file_lines cs) (onto_first c (file_lines cs))) ≤ suc (length cs))
    (λ t. omega (arith, fewer)) (λ f. omega (arith, fewer, onto_count c (file_lines cs)))
