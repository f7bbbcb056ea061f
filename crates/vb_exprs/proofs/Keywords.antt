-- The table of the code is that of the reserved words.
use Rattle.std.proofs.Common.{◌≡◌, ℕ, List, [], ◌∷◌, Option, Some, Bool, true, false, refl, ap, ◌∙◌, map, option_map, find, filter, sym, true≢false, eqb-true, leb-true, ltb-true, arith, length, ◌+◌, get_or, ◌≤◌, ◌<◌, ◌-◌, nat_eq, nat_le, nat_lt, ◌&&◌, if◌then◌else◌, None, cond, Bor}
use Rattle.std.proofs.lemmas.List.{length-map, get_or-map}
use Rattle.std.specs.List.{list_all}
use Rattle.std.proofs.lemmas.List.FromFn.{get_or-map-range_with_len, length-map-range_with_len}
use Rattle.std.specs.Cmp.Lexicographic.{pointwise}
use Rattle.vb_tree.specs.Expressions.{Keyword, keywords, keyword_of, keyword_in}
use Rattle.vb_exprs.specs.TokenClass.{keyword_class, keyword_rows, begins_with, rows_with, rows_by_letter}
use Rattle.vb_exprs.specs.declared.token_class.Class.{Class}

abbrev Rows : Type 0
Rows = List (List ℕ × Class)

abbrev found_in : Rows → List ℕ → Option Class
found_in rows w = option_map (λ r. r.1) (find (λ r. pointwise nat_eq w r.0) rows)

abbrev read_rows : List (Bor (List ℕ) × Class) → Rows
read_rows rows = map (λ r. (r.0.now, r.1)) rows

found_rows : (rows : List (Bor (List ℕ) × Class)) (w : List ℕ) → option_map (λ r. r.1) (find (λ r. pointwise nat_eq w r.0.now) rows) ≡ found_in (read_rows rows) w
found_rows [] w = refl
found_rows (r ∷ rows) w = go (pointwise nat_eq w r.0.now) (found_rows rows w)
  where
    go : (b : Bool) → option_map (λ r. r.1) (find (λ r. pointwise nat_eq w r.0.now) rows) ≡ found_in (read_rows rows) w → option_map (λ r. r.1) (cond b (Some r) (find (λ r. pointwise nat_eq w r.0.now) rows)) ≡ option_map (λ r. r.1) (cond b (Some (r.0.now, r.1)) (find (λ r. pointwise nat_eq w r.0) (read_rows rows)))
    go true e = refl
    go false e = e

both_true : (a b : Bool) → (a && b) ≡ true → (a ≡ true) × (b ≡ true)
both_true true b h = (refl, h)
both_true false b h = absurd (true≢false (sym h))

and_false : (b : Bool) → (b && false) ≡ false
and_false true = refl
and_false false = refl

by_test : (b : Bool) (P : Bool → Type 0) → (b ≡ true → P true) → (b ≡ false → P false) → P b
by_test true P y n = y refl
by_test false P y n = n refl

found_more : (test : Bool) (k : List ℕ × Keyword) (found : Option (List ℕ × Class)) (later : Option Keyword) → option_map (λ r. r.1) found ≡ option_map keyword_class later
    → option_map (λ r. r.1) (cond test (Some (k.0, keyword_class k.1)) found) ≡ option_map keyword_class (if test then Some k.1 else later)
found_more true k found later e = refl
found_more false k found later e = e

-- the rows of the first letter say what all rows say
found_keywords : (ks : List (List ℕ × Keyword)) (c : ℕ) (w : List ℕ) → found_in (filter (λ r. begins_with c r.0) (keyword_rows ks)) (c ∷ w) ≡ option_map keyword_class (keyword_in ks (c ∷ w))
found_keywords [] c w = refl
found_keywords (([], k) ∷ ks) c w = found_keywords ks c w
found_keywords ((d ∷ v, k) ∷ ks) c w =
    let rest : Rows = filter (λ r. begins_with c r.0) (keyword_rows ks) in
    let later = found_keywords ks c w in
    by_test (nat_eq c d) (λ b. found_in (cond b ((d ∷ v, keyword_class k) ∷ rest) rest) (c ∷ w) ≡ option_map keyword_class (keyword_in ((d ∷ v, k) ∷ ks) (c ∷ w)))
    (λ t. found_more (pointwise nat_eq (c ∷ w) (d ∷ v)) (d ∷ v, k) (find (λ r. pointwise nat_eq (c ∷ w) r.0) rest) (keyword_in ks (c ∷ w)) later)
    (λ f. later ∙ ap (λ t. option_map keyword_class (if t && pointwise nat_eq w v then Some k else keyword_in ks (c ∷ w))) (sym f))

first_row_of : (rows : List (Bor (List ℕ) × Class)) (c : ℕ) (w : List ℕ) → map (λ r. (r.0.now, r.1)) rows ≡ rows_with c → option_map (λ r. r.1) (find (λ r. pointwise nat_eq (c ∷ w) r.0.now) rows) ≡ option_map keyword_class (keyword_of (c ∷ w))
unfolding keyword_of rows_with
first_row_of rows c w same = found_rows rows (c ∷ w) ∙ ap (λ x. found_in x (c ∷ w)) same ∙ found_keywords keywords c w

pub row_is_keyword : (rows : List (Bor (List ℕ) × Class)) (w : List ℕ) (d : ℕ) → 1 ≤ length w → map (λ r. (r.0.now, r.1)) rows ≡ rows_with (get_or w 0 d) → option_map (λ r. r.1) (find (λ r. pointwise nat_eq w r.0.now) rows) ≡ option_map keyword_class (keyword_of w)
row_is_keyword rows [] d long same = absurd (omega arith)
row_is_keyword rows (c ∷ w) d long same = first_row_of rows c w same

-- where no reserved word begins with the first letter
pub no_keyword : (w : List ℕ) (d : ℕ) → 1 ≤ length w → rows_with (get_or w 0 d) ≡ [] → option_map keyword_class (keyword_of w) ≡ None
no_keyword w d long none = sym (row_is_keyword [] w d long (sym none))

-- the empty word isn't reserved
pub empty_is_no_keyword : (w : List ℕ) → length w < 1 → option_map keyword_class (keyword_of w) ≡ None
unfolding keyword_of
empty_is_no_keyword [] short = refl
empty_is_no_keyword (c ∷ w) short = absurd (omega arith)

-- all reserved words begin with a small letter
abbrev in_small : List ℕ → Bool
in_small [] = true
in_small (c ∷ w) = nat_le 97 c && nat_lt c 123

all_small : list_all (λ r. in_small r.0) (keyword_rows keywords) ≡ true
all_small = refl

none_begin : (rows : Rows) (letter : ℕ) → list_all (λ r. in_small r.0) rows ≡ true → in_small (letter ∷ []) ≡ false → filter (λ r. begins_with letter r.0) rows ≡ []
none_begin [] letter all other = refl
none_begin (([], k) ∷ rows) letter all other = none_begin rows letter all other
none_begin ((d ∷ v, k) ∷ rows) letter all other =
    let parts = both_true (in_small (d ∷ v)) (list_all (λ r. in_small r.0) rows) all in
    by_test (nat_eq letter d) (λ b. cond b ((d ∷ v, k) ∷ filter (λ r. begins_with letter r.0) rows) (filter (λ r. begins_with letter r.0) rows) ≡ [])
    (λ t. absurd (true≢false (sym parts.0 ∙ ap (λ n. in_small (n ∷ [])) (sym (eqb-true letter d t)) ∙ other)))
    (λ f. none_begin rows letter parts.1 other)

no_rows : (letter : ℕ) → in_small (letter ∷ []) ≡ false → rows_with letter ≡ []
unfolding rows_with
no_rows letter other = none_begin (keyword_rows keywords) letter all_small other

-- no reserved word begins with a character before the small letters
pub none_before : (letter : ℕ) → letter < 97 → rows_with letter ≡ []
none_before letter low = no_rows letter (by_test (nat_le 97 letter) (λ b. (b && nat_lt letter 123) ≡ false) (λ t. absurd (omega (arith, leb-true 97 letter t))) (λ f. refl))

abbrev Table : Type 0
Table = List (Bor (List (Bor (List ℕ) × Class)))

abbrev read_table : Table → List Rows
read_table rows = map (λ g. map (λ r. (r.0.now, r.1)) g.now) rows

table_length : (rows : Table) → read_table rows ≡ rows_by_letter → length rows ≡ 26
unfolding rows_by_letter
table_length rows same = sym (length-map rows (λ g. map (λ r. (r.0.now, r.1)) g.now)) ∙ ap (λ gs. length gs) same ∙ length-map-range_with_len (λ letter. rows_with letter) 97 26

row_at : (at letter : ℕ) (d : Rows) → at < 26 → 97 + at ≡ letter → get_or rows_by_letter at d ≡ rows_with letter
unfolding rows_by_letter
row_at at letter d small same = get_or-map-range_with_len (λ l. rows_with l) 97 26 at letter d small same

-- the group of a letter in the table, and none behind the small letters
pub letter_rows : (rows : Table) (at letter : ℕ) (d : Bor (List (Bor (List ℕ) × Class))) → 97 ≤ letter → at ≡ letter - 97 → read_table rows ≡ rows_by_letter → at < length rows
    → map (λ r. (r.0.now, r.1)) (get_or rows at d).now ≡ rows_with letter
letter_rows rows at letter d low place same small =
    sym (get_or-map (λ g. map (λ r. (r.0.now, r.1)) g.now) rows at d (map (λ r. (r.0.now, r.1)) d.now) small)
    ∙ ap (λ (gs : List Rows). get_or gs at (map (λ r. (r.0.now, r.1)) d.now)) same
    ∙ row_at at letter (map (λ r. (r.0.now, r.1)) d.now) (omega (arith, small, table_length rows same)) (omega (arith, low, place))

pub no_letter_rows : (rows : Table) (at letter : ℕ) → 97 ≤ letter → at ≡ letter - 97 → read_table rows ≡ rows_by_letter → length rows ≤ at → rows_with letter ≡ []
no_letter_rows rows at letter low place same large =
    no_rows letter (by_test (nat_lt letter 123) (λ b. (nat_le 97 letter && b) ≡ false) (λ t. absurd (omega (arith, ltb-true letter 123 t, low, place, large, table_length rows same))) (λ f. and_false (nat_le 97 letter)))
