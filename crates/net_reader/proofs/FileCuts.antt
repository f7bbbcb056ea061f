-- The lines of a file are its text, cut behind each line feed.
use Rattle.std.proofs.Common.{◌≡◌, ℕ, zero, suc, ◌≤◌, Bool, true, false, not, ◌&&◌, cond, eqb, nat_le, List, [], ◌∷◌, ◌++◌, length, take, refl, sym, ap, ◌∙◌, arith, append_assoc}
use Rattle.std.specs.List.{concat, list_all}
use Rattle.std.proofs.lemmas.Bool.{le-leb}
use Rattle.net_exprs.proofs.Words.{both_true, by_test, never}
use Rattle.net_reader.specs.FileLines.{before_lines, file_lines, onto_first}
use Rattle.net_reader.specs.Places.{BeginsAs}
use Rattle.net_reader.proofs.Tests.{and_true, if_true}

-- whether a line has no line feed before its last byte
abbrev pub is_cut : List ℕ → Bool
is_cut [] = true
is_cut (c ∷ []) = true
is_cut (c ∷ d ∷ cs) = not (eqb c 10) && is_cut (d ∷ cs)

-- whether its last byte is one
abbrev pub ends_line : List ℕ → Bool
ends_line [] = false
ends_line (c ∷ []) = eqb c 10
ends_line (c ∷ d ∷ cs) = ends_line (d ∷ cs)

abbrev is_whole : List ℕ → Bool
is_whole line = is_cut line && ends_line line

-- ---- the lines of a text

onto_cut : (c : ℕ) (lines : List (List ℕ)) → eqb c 10 ≡ false → list_all is_cut lines ≡ true → list_all is_cut (onto_first c lines) ≡ true
onto_cut c [] h all = refl
onto_cut c ([] ∷ lines) h all = all
onto_cut c ((d ∷ ds) ∷ lines) h all = rw h all

are_cut : (text : List ℕ) → list_all is_cut (file_lines text) ≡ true
are_cut [] = refl
are_cut (c ∷ cs) =
    by_test (eqb c 10) (λ b. list_all is_cut (cond b ((c ∷ []) ∷ file_lines cs) (onto_first c (file_lines cs))) ≡ true) (λ t. are_cut cs) (λ f. onto_cut c (file_lines cs) f (are_cut cs))

onto_joined : (c : ℕ) (lines : List (List ℕ)) → concat (onto_first c lines) ≡ c ∷ concat lines
onto_joined c [] = refl
onto_joined c (line ∷ lines) = refl

pub lines_joined : (text : List ℕ) → concat (file_lines text) ≡ text
lines_joined [] = refl
lines_joined (c ∷ cs) =
    by_test (eqb c 10) (λ b. concat (cond b ((c ∷ []) ∷ file_lines cs) (onto_first c (file_lines cs))) ≡ c ∷ cs)
    (λ t. ap (λ more. c ∷ more) (lines_joined cs)) (λ f. onto_joined c (file_lines cs) ∙ ap (λ more. c ∷ more) (lines_joined cs))

-- ---- whole lines in front of a text

pub line_cut : (line rest : List ℕ) → is_cut line ≡ true → ends_line line ≡ true → file_lines (line ++ rest) ≡ line ∷ file_lines rest
line_cut [] rest h e = never e
line_cut (c ∷ []) rest h e = if_true (eqb c 10) ((c ∷ []) ∷ file_lines rest) (onto_first c (file_lines rest)) e
line_cut (c ∷ d ∷ cs) rest h e =
    let both = both_true (not (eqb c 10)) (is_cut (d ∷ cs)) h in
    ap (before_lines c) (line_cut (d ∷ cs) rest both.1 e)
    ∙ by_test (eqb c 10) (λ b. not b ≡ true → cond b ((c ∷ []) ∷ (d ∷ cs) ∷ file_lines rest) ((c ∷ d ∷ cs) ∷ file_lines rest) ≡ (c ∷ d ∷ cs) ∷ file_lines rest) (λ t k. never k) (λ f k. refl) both.0

lines_cut : (lines : List (List ℕ)) (rest : List ℕ) → list_all is_cut lines ≡ true → list_all ends_line lines ≡ true → file_lines (concat lines ++ rest) ≡ lines ++ file_lines rest
lines_cut [] rest h e = refl
lines_cut (line ∷ lines) rest h e =
    let cut = both_true (is_cut line) (list_all is_cut lines) h in
    let end = both_true (ends_line line) (list_all ends_line lines) e in
    ap file_lines (append_assoc line (concat lines) rest) ∙ line_cut line (concat lines ++ rest) cut.0 end.0 ∙ ap (λ more. line ∷ more) (lines_cut lines rest cut.1 end.1)

all_taken : {A : Type 0} (f : A → Bool) (n : ℕ) (xs : List A) → list_all f xs ≡ true → list_all f (take n xs) ≡ true
all_taken f zero xs h = refl
all_taken f (suc n) [] h = refl
all_taken f (suc n) (x ∷ xs) h = let both = both_true (f x) (list_all f xs) h in and_true (f x) (list_all f (take n xs)) both.0 (all_taken f n xs both.1)

take_front : {A : Type 0} (n : ℕ) (xs ys : List A) → n ≤ length xs → take n (take n xs ++ ys) ≡ take n xs
take_front zero xs ys h = refl
take_front (suc n) [] ys h = absurd (omega (arith, h))
take_front (suc n) (x ∷ xs) ys h = ap (λ more. x ∷ more) (take_front n xs ys (omega (arith, h)))

pub first_type : (b : Bool) (A B : Type 0) → b ≡ true → A → cond b A B
first_type true A B h x = x
first_type false A B h x = never h

pub as_first : (b : Bool) (A B : Type 0) → b ≡ true → cond b A B → A
as_first true A B h x = x
as_first false A B h x = never h

pub as_second : (b : Bool) (A B : Type 0) → b ≡ false → cond b A B → B
as_second true A B h x = never (sym h)
as_second false A B h x = x

-- a text that begins with the first lines of another, each of which ends, has the same first lines
pub begins_as : (n : ℕ) (text own more : List ℕ) → n ≤ length (file_lines text) → list_all ends_line (take n (file_lines text)) ≡ true → own ≡ concat (take n (file_lines text)) ++ more → BeginsAs n text own
begins_as n text own more within ends is =
    let lines = file_lines text in
    first_type (nat_le n (length lines)) (take n (file_lines own) ≡ take n lines) (own ≡ text) (le-leb n (length lines) within)
    (ap (λ t. take n (file_lines t)) is ∙ ap (take n) (lines_cut (take n lines) more (all_taken is_cut n lines (are_cut text)) ends) ∙ take_front n lines (file_lines more) within)

-- each text begins with no line of another
pub begins_at_all : (text own : List ℕ) → BeginsAs 0 text own
begins_at_all text own = first_type (nat_le 0 (length (file_lines text))) (take 0 (file_lines own) ≡ take 0 (file_lines text)) (own ≡ text) (le-leb 0 (length (file_lines text)) (omega arith)) refl
