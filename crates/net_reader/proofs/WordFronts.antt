-- The words at the front of a text, and its last character, by lengths.
use Rattle.std.proofs.Common.{◌≡◌, ℕ, suc, cond, List, [], ◌∷◌, length, take, refl, ap, ◌==◌, ◌-◌, ◌≤◌, arith, nat_eq, slice_index_or}
use Rattle.net_tree.specs.Spelling.{is_word_part}
use Rattle.net_exprs.proofs.Words.{by_test}
use Rattle.net_reader.specs.LineReader.{before_blank}
use Rattle.net_reader.specs.Words.{ends_with, word_front}

pub front_taken : (s : List ℕ) → take (length (word_front s)) s ≡ word_front s
front_taken [] = refl
front_taken (c ∷ s) =
    by_test (is_word_part c) (λ b. let front : List ℕ = cond b (c ∷ word_front s) [] in take (length front) (c ∷ s) ≡ front)
    (λ h. ap (λ w. c ∷ w) (front_taken s)) (λ h. refl)

pub blank_taken : (s : List ℕ) → take (length (before_blank s)) s ≡ before_blank s
blank_taken [] = refl
blank_taken (c ∷ s) =
    by_test (c == 32) (λ b. let front : List ℕ = cond b [] (c ∷ before_blank s) in take (length front) (c ∷ s) ≡ front)
    (λ h. refl) (λ h. ap (λ w. c ∷ w) (blank_taken s))

pub last_is : (byte : ℕ) (s : List ℕ) → 1 ≤ length s → nat_eq (slice_index_or s (length s - 1) 0) byte ≡ ends_with byte s
last_is byte [] h = absurd (omega arith)
last_is byte (c ∷ []) h = refl
last_is byte (c ∷ d ∷ cs) h =
    let more : length (c ∷ d ∷ cs) - 1 ≡ suc (length (d ∷ cs) - 1) = omega arith in
    rw more (last_is byte (d ∷ cs) (omega arith))
