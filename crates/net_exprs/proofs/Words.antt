-- Words, names and paths are read back.
use Rattle.std.proofs.Common.{◌≡◌, ℕ, zero, suc, ◌≤◌, Bool, true, false, not, ◌&&◌, ◌||◌, ◌==◌, if◌then◌else◌, List, [], ◌∷◌, ◌++◌, length, map, codes, refl, sym, ap, ◌∙◌, arith, append_assoc, length-append, map-id, eqb-true, true≢false, ⊎_elim, Option, Some}
use Rattle.std.specs.List.{list_all}
use Rattle.std.proofs.lemmas.Bool.{and_from, not-true, or_cases}
use Rattle.std.specs.Cmp.Lexicographic.{bytes_decides}
use Rattle.net_tree.specs.Spelling.{is_word_part, is_identifier, is_bracketed, is_library_path, is_path, is_same_path, is_same_text, name_text, path_text, separated}
use Rattle.net_exprs.specs.Readers.{behind, look_up, word_at, with_first}
use Rattle.net_exprs.specs.Ends.{begins_with, ends_name, ends_path}
use Rattle.net_exprs.specs.Names.{is_digit, bracketed_name, name_at, path_at, path_behind, path_from, plain_name}
use Rattle.net_exprs.specs.Laws.{NamesAreRead, PathsAreRead}

-- ---- tests

pub by_test : (b : Bool) (P : Bool → Type 0) → (b ≡ true → P true) → (b ≡ false → P false) → P b
by_test true P y n = y refl
by_test false P y n = n refl

pub both_true : (a b : Bool) → (a && b) ≡ true → (a ≡ true) × (b ≡ true)
both_true true b h = (refl, h)
both_true false b h = absurd (true≢false (sym h))

pub never : {A : Type 0} → false ≡ true → A
never h = absurd (true≢false (sym h))

-- a character of a word is none that is not
pub is_other : (c d : ℕ) → is_word_part c ≡ true → is_word_part d ≡ false → (c == d) ≡ false
is_other c d h k = by_test (c == d) (λ b. b ≡ false) (λ e. absurd (true≢false (sym h ∙ ap is_word_part (eqb-true c d e) ∙ k))) (λ e. refl)

-- ---- words

pub word_reads : (w rest : List ℕ) → list_all is_word_part w ≡ true → ends_name rest ≡ true → word_at (w ++ rest) ≡ (w, rest)
word_reads [] [] a e = refl
word_reads [] (c ∷ s) a e = rw (not-true (is_word_part c) e) refl
word_reads (c ∷ w) rest a e =
    let parts = both_true (is_word_part c) (list_all is_word_part w) a in
    rw parts.0 (ap (with_first c) (word_reads w rest parts.1 e))

-- a word that is written in brackets is none that isn't
pub is_unlike : (w k : List ℕ) → is_bracketed w ≡ false → is_bracketed k ≡ true → is_same_text w k ≡ false
is_unlike w k h b =
    by_test (is_same_text w k) (λ t. t ≡ false) (λ e. absurd (true≢false (sym b ∙ ap is_bracketed (sym ((bytes_decides w k).0 e)) ∙ h))) (λ e. refl)

-- so a table of such words has nothing for it
pub not_in_table : {A : Type 0} (w : List ℕ) (rows : List (List ℕ × A)) → is_bracketed w ≡ false → list_all (λ row. is_bracketed row.0) rows ≡ true → look_up w rows ≡ Option.None
not_in_table w [] h all = refl
not_in_table w (row ∷ rows) h all =
    let parts = both_true (is_bracketed row.0) (list_all (λ row. is_bracketed row.0) rows) all in
    rw (is_unlike w row.0 h parts.0) (not_in_table w rows h parts.1)

-- ---- names

pub is_word : (n : List ℕ) → is_identifier n ≡ true → list_all is_word_part n ≡ true
is_word [] h = never h
is_word (c ∷ cs) h = (both_true (not (is_digit c)) (list_all is_word_part (c ∷ cs)) h).1

pub plain_name_reads : (n rest : List ℕ) → is_identifier n ≡ true → ends_name rest ≡ true → name_at (n ++ rest) ≡ Some (n, rest)
plain_name_reads [] rest h e = never h
plain_name_reads (c ∷ cs) rest h e =
    let all = is_word (c ∷ cs) h in
    let first = both_true (is_word_part c) (list_all is_word_part cs) all in
    let plain : name_at (c ∷ cs ++ rest) ≡ plain_name (word_at (c ∷ cs ++ rest)).0 (word_at (c ∷ cs ++ rest)).1 = rw (is_other c 91 first.0 refl) refl in
    plain ∙ ap (λ parts. plain_name parts.0 parts.1) (word_reads (c ∷ cs) rest all e)

pub bracketed_name_reads : (n rest : List ℕ) → is_identifier n ≡ true → name_at ((codes "[" ++ n ++ codes "]") ++ rest) ≡ Some (n, rest)
bracketed_name_reads n rest h =
    ap (λ s. name_at (91 ∷ s)) (append_assoc n (codes "]") rest) ∙ ap (λ parts. bracketed_name parts.0 parts.1) (word_reads n (93 ∷ rest) (is_word n h) refl)

pub name_reads : NamesAreRead
name_reads n rest h e =
    by_test (is_bracketed n) (λ b. name_at ((if b then codes "[" ++ n ++ codes "]" else n) ++ rest) ≡ Some (n, rest))
    (λ b. bracketed_name_reads n rest h) (λ b. plain_name_reads n rest h e)

-- ---- paths

-- what a name of a path is written as
abbrev IsSpelling : (List ℕ → List ℕ) → Type 0
IsSpelling spell = (n rest : List ℕ) → is_identifier n ≡ true → ends_name rest ≡ true → name_at (spell n ++ rest) ≡ Some (n, rest)

path_ends : (go : List ℕ → Option (List (List ℕ) × List ℕ)) (n rest : List ℕ) → ends_path rest ≡ true → path_behind go n rest ≡ Some (n ∷ [], rest)
path_ends go n [] h = refl
path_ends go n (c ∷ s) h = rw (not-true (c == 46) (both_true (not (is_word_part c)) (not (c == 46)) h).1, path_behind) refl

path_reads_from : (spell : List ℕ → List ℕ) → IsSpelling spell → (k : ℕ) (n : List ℕ) (names : List (List ℕ)) (rest : List ℕ)
    → list_all is_identifier (n ∷ names) ≡ true → ends_path rest ≡ true → length names ≤ k
    → path_from (suc k) (separated (codes ".") (map spell (n ∷ names)) ++ rest) ≡ Some (n ∷ names, rest)
path_reads_from spell each k n [] rest h e long =
    let name = (both_true (is_identifier n) true h).0 in
    let ends = (both_true (ends_name rest) (not (begins_with 46 rest)) e).0 in
    ap (λ o. behind o (path_behind (path_from k))) (each n rest name ends) ∙ path_ends (path_from k) n rest e
path_reads_from spell each zero n (m ∷ names) rest h e long = absurd (omega arith)
path_reads_from spell each (suc k) n (m ∷ names) rest h e long =
    let parts = both_true (is_identifier n) (list_all is_identifier (m ∷ names)) h in
    let more = separated (codes ".") (map spell (m ∷ names)) in
    let again : (spell n ++ codes "." ++ more) ++ rest ≡ spell n ++ (46 ∷ (more ++ rest)) = simp append_assoc in
    ap (path_from (suc (suc k))) again
    ∙ ap (λ o. behind o (path_behind (path_from (suc k)))) (each n (46 ∷ (more ++ rest)) parts.0 refl)
    ∙ ap (λ o. behind o (λ names rest. Some (n ∷ names, rest))) (path_reads_from spell each k m names rest parts.1 e (omega arith))

names_no_more : (spell : List ℕ → List ℕ) (names : List (List ℕ)) (rest : List ℕ) → length names ≤ suc (length (separated (codes ".") (map spell names) ++ rest))
names_no_more spell [] rest = omega arith
names_no_more spell (n ∷ []) rest = omega arith
names_no_more spell (n ∷ m ∷ names) rest =
    let more = separated (codes ".") (map spell (m ∷ names)) in
    let again : (spell n ++ codes "." ++ more) ++ rest ≡ spell n ++ (46 ∷ (more ++ rest)) = simp append_assoc in
    omega (arith, ap length again, length-append (spell n) (46 ∷ (more ++ rest)), names_no_more spell (m ∷ names) rest)

path_reads_spelt : (spell : List ℕ → List ℕ) → IsSpelling spell → (n : List ℕ) (names : List (List ℕ)) (rest : List ℕ)
    → list_all is_identifier (n ∷ names) ≡ true → ends_path rest ≡ true → path_at (separated (codes ".") (map spell (n ∷ names)) ++ rest) ≡ Some (n ∷ names, rest)
path_reads_spelt spell each n names rest h e =
    path_reads_from spell each (length (separated (codes ".") (map spell (n ∷ names)) ++ rest)) n names rest h e
    (omega (arith, names_no_more spell (n ∷ names) rest))

pub names_read : (n : List ℕ) (names : List (List ℕ)) (rest : List ℕ)
    → list_all is_identifier (n ∷ names) ≡ true → ends_path rest ≡ true → path_at (path_text (n ∷ names) ++ rest) ≡ Some (n ∷ names, rest)
names_read n names rest h e =
    by_test (is_library_path (n ∷ names)) (λ b. path_at (separated (codes ".") (if b then n ∷ names else map name_text (n ∷ names)) ++ rest) ≡ Some (n ∷ names, rest))
    (λ b. ap (λ texts. path_at (separated (codes ".") texts ++ rest)) (sym (map-id (n ∷ names))) ∙ path_reads_spelt (λ n. n) plain_name_reads n names rest h e)
    (λ b. path_reads_spelt name_text name_reads n names rest h e)

pub are_identifiers : (n : List ℕ) (names : List (List ℕ)) → is_path (n ∷ names) ≡ true → list_all is_identifier (n ∷ names) ≡ true
are_identifiers n names h = (both_true (list_all is_identifier (n ∷ names)) (not (is_same_path (n ∷ names) (codes "System" ∷ codes "Array" ∷ []))) h).0

pub path_reads : PathsAreRead
path_reads [] rest h e = never h
path_reads (n ∷ names) rest h e = names_read n names rest (are_identifiers n names h) e

-- ---- how a path begins

first_word : (w : List ℕ) (texts : List (List ℕ)) (rest : List ℕ) → list_all is_word_part w ≡ true → ends_path rest ≡ true
    → (word_at (separated (codes ".") (w ∷ texts) ++ rest)).0 ≡ w
first_word w [] rest all e = ap (λ parts. parts.0) (word_reads w rest all (both_true (ends_name rest) (not (begins_with 46 rest)) e).0)
first_word w (t ∷ texts) rest all e =
    let more = separated (codes ".") (t ∷ texts) in
    let again : (w ++ codes "." ++ more) ++ rest ≡ w ++ (46 ∷ (more ++ rest)) = simp append_assoc in
    ap (λ s. (word_at s).0) again ∙ ap (λ parts. parts.0) (word_reads w (46 ∷ (more ++ rest)) all refl)

no_word : (s : List ℕ) (texts : List (List ℕ)) (rest : List ℕ) → (word_at (separated (codes ".") ((91 ∷ s) ∷ texts) ++ rest)).0 ≡ []
no_word s [] rest = refl
no_word s (t ∷ texts) rest = refl

library_word : (n : List ℕ) (names : List (List ℕ)) → is_library_path (n ∷ names) ≡ true → is_bracketed n ≡ false
unfolding is_bracketed
library_word n names h =
    ⊎_elim (λ e. ap is_bracketed ((bytes_decides n (codes "System")).0 e) ∙ refl) (λ e. ap is_bracketed ((bytes_decides n (codes "Microsoft")).0 e) ∙ refl)
    (or_cases (is_same_text n (codes "System")) (is_same_text n (codes "Microsoft")) h)

nothing_bracketed : is_bracketed [] ≡ false
unfolding is_bracketed
nothing_bracketed = refl

-- The word that a path begins with is none that is written in brackets.
pub path_word : (n : List ℕ) (names : List (List ℕ)) (rest : List ℕ) → list_all is_identifier (n ∷ names) ≡ true → ends_path rest ≡ true
    → is_bracketed (word_at (path_text (n ∷ names) ++ rest)).0 ≡ false
path_word n names rest h e =
    by_test (is_library_path (n ∷ names)) (λ b. is_bracketed (word_at (separated (codes ".") (if b then n ∷ names else map name_text (n ∷ names)) ++ rest)).0 ≡ false)
    (λ b. ap is_bracketed (first_word n names rest word e) ∙ library_word n names b)
    (λ b. by_test (is_bracketed n)
    (λ t. is_bracketed n ≡ t → is_bracketed (word_at (separated (codes ".") ((if t then codes "[" ++ n ++ codes "]" else n) ∷ map name_text names) ++ rest)).0 ≡ false)
    (λ t same. ap is_bracketed (no_word (n ++ codes "]") (map name_text names) rest) ∙ nothing_bracketed)
    (λ t same. ap is_bracketed (first_word n (map name_text names) rest word e) ∙ same) refl)
  where
    word : list_all is_word_part n ≡ true
    word = is_word n (both_true (is_identifier n) (list_all is_identifier names) h).0

-- ---- first characters

abbrev pub is_path_start : ℕ → Bool
is_path_start c = c == 91 || (is_word_part c && not (is_digit c))

pub record BeginsPath (text : List ℕ) : Type 0 where
  pub first : ℕ
  pub others : List ℕ
  pub are : text ≡ first ∷ others
  pub starts : is_path_start first ≡ true

identifier_start : (c : ℕ) (cs : List ℕ) → is_identifier (c ∷ cs) ≡ true → is_path_start c ≡ true
identifier_start c cs h =
    let parts = both_true (not (is_digit c)) (list_all is_word_part (c ∷ cs)) h in
    let word = (both_true (is_word_part c) (list_all is_word_part cs) parts.1).0 in
    let both : (is_word_part c && not (is_digit c)) ≡ true = and_from (is_word_part c) (not (is_digit c)) word parts.0 in
    by_test (c == 91) (λ b. (b || (is_word_part c && not (is_digit c))) ≡ true) (λ t. refl) (λ t. both)

-- texts that are joined begin as the first does
joined_start : (text : List ℕ) (texts : List (List ℕ)) → BeginsPath text → BeginsPath (separated (codes ".") (text ∷ texts))
joined_start text [] b = b
joined_start text (t ∷ texts) b =
    record { first = b.first; others = b.others ++ codes "." ++ separated (codes ".") (t ∷ texts); are = ap (λ s. s ++ codes "." ++ separated (codes ".") (t ∷ texts)) b.are; starts = b.starts }

plain_start : (n : List ℕ) → is_identifier n ≡ true → BeginsPath n
plain_start [] h = never h
plain_start (c ∷ cs) h = record { first = c; others = cs; are = refl; starts = identifier_start c cs h }

pub name_start : (n : List ℕ) → is_identifier n ≡ true → BeginsPath (name_text n)
name_start n h =
    by_test (is_bracketed n) (λ b. BeginsPath (if b then codes "[" ++ n ++ codes "]" else n))
    (λ t. record { first = 91; others = n ++ codes "]"; are = refl; starts = refl }) (λ t. plain_start n h)

pub path_start : (n : List ℕ) (names : List (List ℕ)) → list_all is_identifier (n ∷ names) ≡ true → BeginsPath (path_text (n ∷ names))
path_start n names h =
    let first = (both_true (is_identifier n) (list_all is_identifier names) h).0 in
    by_test (is_library_path (n ∷ names)) (λ b. BeginsPath (separated (codes ".") (if b then n ∷ names else map name_text (n ∷ names))))
    (λ b. joined_start n names (plain_start n first)) (λ b. joined_start (name_text n) (map name_text names) (name_start n first))
