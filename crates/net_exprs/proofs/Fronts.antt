-- What stands at the front of a text and behind it, by lengths.
use Rattle.std.proofs.Common.{◌≡◌, ℕ, suc, ◌+◌, ◌*◌, ◌≤◌, ◌<◌, true, false, ◌&&◌, ◌==◌, nat_eq, nat_lt, if◌then◌else◌, List, [], ◌∷◌, length, take, drop, refl, sym, ap, ◌∙◌, arith, Option, Some, None, MatchOption, Bor, lt-ltb, get_or}
use Rattle.std.specs.Char.{digit_value}
use Rattle.std.specs.Cmp.Lexicographic.{pointwise}
use Rattle.std.proofs.lemmas.Nat.{mul-le}
use Rattle.std.proofs.lemmas.Bool.Decides.{nat_tests}
use Rattle.net_tree.specs.Spelling.{is_word_part}
use Rattle.net_exprs.specs.declared.starts.Keyword.{Keyword}
use Rattle.net_exprs.specs.Answers.{now_of}
use Rattle.net_exprs.specs.Names.{begins_digit, is_digit, numeral_from}
use Rattle.net_exprs.specs.Readers.{after, word_at, with_first}
use Rattle.net_exprs.specs.Expressions.{keyword_of}
use Rattle.net_exprs.proofs.Words.{by_test, never}

pub word_taken : (s : List ℕ) → take (length (word_at s).0) s ≡ (word_at s).0
word_taken [] = refl
word_taken (c ∷ s) =
    by_test (is_word_part c) (λ b. let parts : List ℕ × List ℕ = if b then with_first c (word_at s) else ([], c ∷ s) in take (length parts.0) (c ∷ s) ≡ parts.0)
    (λ h. ap (λ w. c ∷ w) (word_taken s)) (λ h. refl)

pub word_dropped : (s : List ℕ) → drop (length (word_at s).0) s ≡ (word_at s).1
word_dropped [] = refl
word_dropped (c ∷ s) =
    by_test (is_word_part c) (λ b. let parts : List ℕ × List ℕ = if b then with_first c (word_at s) else ([], c ∷ s) in drop (length parts.0) (c ∷ s) ≡ parts.1)
    (λ h. word_dropped s) (λ h. refl)

-- ---- texts

after_stands : (front s : List ℕ) → pointwise nat_eq (take (length front) s) front ≡ true → after front s ≡ Some (drop (length front) s)
after_stands [] s h = refl
after_stands (c ∷ front) [] h = never h
after_stands (c ∷ front) (d ∷ s) h =
    by_test (d == c) (λ b. b && pointwise nat_eq (take (length front) s) front ≡ true → (if b then after front s else None) ≡ Some (drop (length front) s))
    (λ t k. after_stands front s k) (λ t k. never k) h

after_lacks : (front s : List ℕ) → pointwise nat_eq (take (length front) s) front ≡ false → after front s ≡ None
after_lacks [] s h = never (sym h)
after_lacks (c ∷ front) [] h = refl
after_lacks (c ∷ front) (d ∷ s) h =
    by_test (d == c) (λ b. b && pointwise nat_eq (take (length front) s) front ≡ false → (if b then after front s else None) ≡ None)
    (λ t k. after_lacks front s k) (λ t k. refl) h

-- what is left where a text is taken from the front
pub after_found : (front s : List ℕ) (found : Option (Bor (List ℕ)))
    → MatchOption found (pointwise nat_eq (take (length front) s) front ≡ false)
    (λ rest. (pointwise nat_eq (take (length front) s) front ≡ true) × (rest.now ≡ drop (length front) s) × (length rest.now + length front ≡ length s))
    → now_of found ≡ after front s
after_found front s None h = sym (after_lacks front s h)
after_found front s (Some rest) h = ap (λ x. Some x) h.1 ∙ sym (after_stands front s h.0)

-- ---- numbers

mul_grows : (n base : ℕ) → 1 ≤ base → n ≤ n * base
mul_grows n base h = omega (arith, mul-le n 1 n base (omega arith) h)

-- a number doesn't get smaller with more digits
pub numeral_grows : (base n : ℕ) (s : List ℕ) → 1 ≤ base → n ≤ (numeral_from base n s).0
numeral_grows base n [] h = omega arith
numeral_grows base n (c ∷ s) h =
    let more = numeral_grows base (n * base + digit_value c) s h in
    by_test (nat_lt (digit_value c) base) (λ b. let parts : ℕ × List ℕ = if b then numeral_from base (n * base + digit_value c) s else (n, c ∷ s) in n ≤ parts.0)
    (λ t. omega (arith, more, mul_grows n base h)) (λ t. omega arith)

pub too_large : (base n digit limit : ℕ) (rest : List ℕ) (whole : ℕ × List ℕ) → 2 ≤ base → 1 ≤ length rest → digit ≡ digit_value (get_or rest 0 0) → digit < base
    → numeral_from base n rest ≡ whole → limit ≤ n * base + digit → limit ≤ whole.0
too_large base n digit limit [] whole b some same small is large = absurd (omega arith)
too_large base n digit limit (c ∷ s) whole b some same small is large =
    let taken : numeral_from base n (c ∷ s) ≡ numeral_from base (n * base + digit_value c) s = rw (lt-ltb (digit_value c) base (omega (arith, same, small))) refl in
    omega (arith, same, large, ap (λ p. p.0) (sym taken ∙ is), numeral_grows base (n * base + digit_value c) s (omega arith))

pub numeral_no_longer : (base n : ℕ) (s : List ℕ) → length (numeral_from base n s).1 ≤ length s
numeral_no_longer base n [] = omega arith
numeral_no_longer base n (c ∷ s) =
    by_test (nat_lt (digit_value c) base) (λ b. let parts : ℕ × List ℕ = if b then numeral_from base (n * base + digit_value c) s else (n, c ∷ s) in length parts.1 ≤ suc (length s))
    (λ t. omega (arith, numeral_no_longer base (n * base + digit_value c) s)) (λ t. omega arith)

digit_counts : (c : ℕ) → is_digit c ≡ true → digit_value c < 10
digit_counts c h = grind (arith, nat_tests)

-- where a digit stands first, a number has one
pub numeral_shorter : (s : List ℕ) → begins_digit s ≡ true → length (numeral_from 10 0 s).1 < length s
numeral_shorter [] h = never h
numeral_shorter (c ∷ s) h =
    let taken : numeral_from 10 0 (c ∷ s) ≡ numeral_from 10 (0 * 10 + digit_value c) s = rw (lt-ltb (digit_value c) 10 (digit_counts c h)) refl in
    omega (arith, ap (λ p. length p.1) taken, numeral_no_longer 10 (0 * 10 + digit_value c) s)

-- ---- words of the language

pub keyword_is_word : (w : List ℕ) (k : Keyword) → keyword_of w ≡ Some k → 0 < length w
unfolding keyword_of
keyword_is_word [] k h = absurd cc
keyword_is_word (c ∷ w) k h = omega arith
