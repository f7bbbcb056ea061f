-- A word is looked for among those of its first letter alone.
use Rattle.std.proofs.Common.{◌≡◌, ℕ, ◌+◌, ◌-◌, ◌<◌, ◌≤◌, ◌==◌, Bool, true, false, cond, ◌&&◌, ◌||◌, List, [], ◌∷◌, map, filter, nat_eq, nat_le, length, get_or, Bor, refl, sym, ap, ◌∙◌, arith}
use Rattle.std.specs.List.{list_any, list_all, range_with_len}
use Rattle.std.specs.Char.{is_ascii_lowercase}
use Rattle.up_base.specs.Names.{lower_case}
use Rattle.std.specs.Cmp.Lexicographic.{pointwise}
use Rattle.std.proofs.Math.ListN.{get_or-map}
use Rattle.std.proofs.lemmas.List.FromFn.{get_or-map-range_with_len}
use Rattle.net_tree.specs.Spelling.{bracketed_words, is_bracketed, is_same_text}
use Rattle.net_emitter.proofs.Emitting.{and-left, and-right}
use Rattle.net_emitter.specs.Words.{begins_with, words_with, words_by_letter}

-- whether a word begins with a small letter
abbrev begins_small : List ℕ → Bool
begins_small [] = false
begins_small (c ∷ cs) = nat_le 97 c && nat_le c 122

all_small : list_all begins_small bracketed_words ≡ true
all_small = refl

kept : (c : ℕ) (cs : List ℕ) (d : ℕ) (ds : List ℕ) (words : List (List ℕ)) (b : Bool) → (c == d) ≡ b → list_any (is_same_text (c ∷ cs)) (filter (begins_with c) words) ≡ list_any (is_same_text (c ∷ cs)) words → list_any (is_same_text (c ∷ cs)) (filter (begins_with c) ((d ∷ ds) ∷ words)) ≡ list_any (is_same_text (c ∷ cs)) ((d ∷ ds) ∷ words)
kept c cs d ds words true same rest = simp (same, rest) refl
kept c cs d ds words false same rest = simp same rest

pub among_first : (c : ℕ) (cs : List ℕ) (words : List (List ℕ)) → list_any (is_same_text (c ∷ cs)) (filter (begins_with c) words) ≡ list_any (is_same_text (c ∷ cs)) words
among_first c cs [] = refl
among_first c cs ([] ∷ words) = among_first c cs words
among_first c cs ((d ∷ ds) ∷ words) = kept c cs d ds words (c == d) refl (among_first c cs words)

-- a word of another first character is none of words that begin with a small letter
apart : (c d : ℕ) → (97 ≤ c → 123 ≤ c) → (nat_le 97 d && nat_le d 122) ≡ true → (c == d) ≡ false
apart c d far small = grind arith

pub outside : (c : ℕ) (cs : List ℕ) (words : List (List ℕ)) → (97 ≤ c → 123 ≤ c) → list_all begins_small words ≡ true → list_any (is_same_text (c ∷ cs)) words ≡ false
outside c cs [] far all = refl
outside c cs ([] ∷ words) far all = cc
outside c cs ((d ∷ ds) ∷ words) far all =
    let small = and-left (nat_le 97 d && nat_le d 122) (list_all begins_small words) all in
    let rest = and-right (nat_le 97 d && nat_le d 122) (list_all begins_small words) all in
    rw (apart c d far small) (outside c cs words far rest)

pub of_letter : (c : ℕ) (none : List (List ℕ)) → 97 ≤ c → c < 123 → get_or words_by_letter (c - 97) none ≡ words_with c
of_letter c none low high = get_or-map-range_with_len words_with 97 26 (c - 97) c none (omega arith) (omega arith)

-- among the words of its first letter, a word is found where it is among all
pub among_letter : (word : List ℕ) (c : ℕ) (cs : List ℕ) (rows : List (List ℕ)) → word ≡ c ∷ cs → rows ≡ words_with c → list_any (is_same_text word) rows ≡ list_any (is_same_text word) bracketed_words
among_letter word c cs rows spelt found = rw (spelt, found) (among_first c cs bracketed_words)

-- the words of a letter in a table that is borrowed
abbrev words_in : Bor (List (Bor (List ℕ))) → List (List ℕ)
words_in row = map (λ w. w.now) row.now

found_in : (word : List ℕ) (row : List (Bor (List ℕ))) → list_any (λ w. pointwise nat_eq word w.now) row ≡ list_any (is_same_text word) (map (λ w. w.now) row)
found_in word [] = refl
found_in word (w ∷ row) = ap (λ rest. pointwise nat_eq word w.now || rest) (found_in word row)

row_of : (rows : List (Bor (List (Bor (List ℕ))))) (first k : ℕ) (none : Bor (List (Bor (List ℕ)))) → map words_in rows ≡ words_by_letter → k ≡ first - 97 → 97 ≤ first → first < 123 → words_in (get_or rows k none) ≡ words_with first
row_of rows first k none table place low high =
    sym (get_or-map words_in rows k none) ∙ ap (λ all. get_or all k (words_in none)) table ∙ ap (λ n. get_or words_by_letter n (words_in none)) place
    ∙ of_letter first (words_in none) low high

pub small_range : (c : ℕ) → is_ascii_lowercase c ≡ true → (97 ≤ c) × (c < 123)
small_range c small = grind arith

-- a word with a first letter is looked for in the row of that letter
pub is_found : (rows : List (Bor (List (Bor (List ℕ))))) (word name : List ℕ) (first k : ℕ) (none : Bor (List (Bor (List ℕ)))) → word ≡ lower_case name → map words_in rows ≡ words_by_letter → k ≡ first - 97 → 0 < length word → first ≡ get_or word 0 0 → is_ascii_lowercase first ≡ true → list_any (λ w. pointwise nat_eq word w.now) (get_or rows k none).now ≡ is_bracketed name
unfolding is_bracketed
is_found rows [] name first k none spelt table place some at small = absurd (omega arith)
is_found rows (c ∷ cs) name first k none spelt table place some at small =
    let range = small_range first small in
    found_in (c ∷ cs) (get_or rows k none).now
    ∙ among_letter (c ∷ cs) first cs (words_in (get_or rows k none)) (ap (λ d. d ∷ cs) (sym at)) (row_of rows first k none table place range.0 range.1)
    ∙ ap (λ w. list_any (is_same_text w) bracketed_words) spelt

-- a name without characters is none of the words
pub nothing_found : (word name : List ℕ) → word ≡ lower_case name → length word ≤ 0 → false ≡ is_bracketed name
unfolding is_bracketed
nothing_found [] name spelt none = ap (λ w. list_any (is_same_text w) bracketed_words) spelt
nothing_found (c ∷ cs) name spelt none = absurd (omega arith)

large_range : (c : ℕ) → is_ascii_lowercase c ≡ false → 97 ≤ c → 123 ≤ c
large_range c large low = grind arith

-- nor is one that begins with another character
pub none_found : (word name : List ℕ) (first : ℕ) → word ≡ lower_case name → 0 < length word → first ≡ get_or word 0 0 → is_ascii_lowercase first ≡ false → false ≡ is_bracketed name
unfolding is_bracketed
none_found [] name first spelt some at large = absurd (omega arith)
none_found (c ∷ cs) name first spelt some at large =
    sym (outside c cs bracketed_words (large_range c (rw at at large)) all_small) ∙ ap (λ w. list_any (is_same_text w) bracketed_words) spelt
