-- How expressions begin, and where their suffixes end.
use Rattle.std.proofs.Common.{◌≡◌, ℕ, Bool, true, false, not, ◌&&◌, ◌||◌, ◌==◌, if◌then◌else◌, List, [], ◌∷◌, ◌++◌, codes, refl, sym, ap, ◌∙◌, append_assoc, eqb-true, ⊎_elim, Option, Some, None}
use Rattle.std.specs.List.{list_all}
use Rattle.std.proofs.lemmas.Bool.{not-true, or_cases}
use Rattle.net_tree.specs.declared.expression.CastWord.{CastWord}
use Rattle.net_tree.specs.declared.expression.CastWord.TheVariants as word
use Rattle.net_tree.specs.Tree.{Exp, Literal, binary, boolean, call_of, cast, ctype, decimal, dot, integer, lit, long, me, new_array, new_object, nothing, paren, path, short, str, type_of, unary, with_dot}
use Rattle.net_tree.specs.Spelling.{is_bracketed, is_identifier, is_word_part, name_text, path_text}
use Rattle.net_tree.specs.Literals.{is_writable_literal, literal_text}
use Rattle.net_tree.specs.Expressions.{arguments_text, cast_text, exp_text, is_path_exp, is_writable_exp, are_writable_exps}
use Rattle.net_exprs.specs.declared.starts.Front.TheVariants as opens
use Rattle.net_exprs.specs.declared.starts.Keyword.{Keyword}
use Rattle.net_exprs.specs.declared.starts.Start.TheVariants as start
use Rattle.net_exprs.specs.Readers.{after, behind, word_at}
use Rattle.net_exprs.specs.Ends.{begins_braces, begins_with, ends_expression, ends_name, ends_path, ends_type}
use Rattle.net_exprs.specs.Names.{begins_digit, is_digit}
use Rattle.net_exprs.specs.Literals.{literal_at}
use Rattle.net_exprs.specs.Expressions.{braces_or_none, front_of, head_at, keyword_of, keywords, leaf, no_suffix, opened, opening_at, path_opening, start_of, started, suffix_of, whole, word_front, worded}
use Rattle.net_exprs.specs.Fitting.{fits_exp, fits_exps, fits_literal, fits_name}
use Rattle.net_exprs.proofs.Words.{BeginsPath, are_identifiers, both_true, by_test, is_other, is_unlike, never, not_in_table, path_start, path_word, word_reads, names_read}
use Rattle.phrase_laws.proofs.Numbers.{begins_no_digit, is_word_digit}
use Rattle.phrase_laws.proofs.LiteralsRead.{begins_places, ends_literal, is_literal_start, is_no_word, literal_begins, literal_reads}

-- ---- what may follow

-- what may follow an expression, be it a suffix of it or not
abbrev pub follows : Exp → List ℕ → Bool
follows e s = ends_literal s && not (begins_with 46 s && is_path_exp e)

pub literal_ends : (e : Exp) (s : List ℕ) → follows e s ≡ true → ends_literal s ≡ true
literal_ends e s h = (both_true (ends_literal s) (not (begins_with 46 s && is_path_exp e)) h).0

pub name_ends : (e : Exp) (s : List ℕ) → follows e s ≡ true → ends_name s ≡ true
name_ends e s h =
    (both_true (ends_name s) (not (begins_with 34 s)) (both_true (ends_name s && not (begins_with 34 s)) (not (begins_places s)) (literal_ends e s h)).0).0

pub path_ends : (names : List (List ℕ)) (s : List ℕ) → follows (path names) s ≡ true → ends_path s ≡ true
path_ends names s h = by_both (ends_name s) (begins_with 46 s) (name_ends (path names) s h) (both_true (ends_literal s) (not (begins_with 46 s && true)) h).1
  where
    by_both : (a b : Bool) → a ≡ true → not (b && true) ≡ true → (a && not b) ≡ true
    by_both true true x y = y
    by_both true false x y = refl
    by_both false b x y = never x

-- what follows an expression that ends follows it
pub follows_end : (e : Exp) (s : List ℕ) → ends_expression s ≡ true → follows e s ≡ true
follows_end e [] h = refl
follows_end e (c ∷ s) h = by_all (is_word_part c) (c == 46) (c == 40) (c == 34) (begins_braces (c ∷ s)) (begins_digit s) (is_path_exp e) h
  where
    by_all : (w p o q b d x : Bool) → ((((not w && not p) && not o) && not q) && not b) ≡ true → (((not w && not q) && not (p && d)) && not (p && x)) ≡ true
    by_all true p o q b d x h = never h
    by_all false true o q b d x h = never h
    by_all false false true q b d x h = never h
    by_all false false false true b d x h = never h
    by_all false false false false b d x h = refl

-- a member follows what is no path
pub follows_member : (e : Exp) (name rest : List ℕ) → is_path_exp e ≡ false → is_identifier name ≡ true → follows e (46 ∷ (name_text name ++ rest)) ≡ true
follows_member e name rest p h = rw (begins_no_digit name rest h, p) refl

-- ---- first words

-- a word that is not written in brackets is none that the reader knows
pub front_of_name : (w : List ℕ) → is_bracketed w ≡ false → word_front w ≡ opens.Operand
unfolding word_front is_bracketed
front_of_name w h = rw (is_unlike w (codes "Not") h refl, is_unlike w (codes "TypeOf") h refl) refl

all_keywords_bracketed : list_all (λ row. is_bracketed row.0) keywords ≡ true
unfolding is_bracketed
all_keywords_bracketed = refl

pub no_keyword : (w : List ℕ) → is_bracketed w ≡ false → keyword_of w ≡ None
unfolding keyword_of
no_keyword w h = not_in_table w keywords h all_keywords_bracketed

-- a digit is no character that isn't one
digit_is_other : (c d : ℕ) → is_digit c ≡ true → is_digit d ≡ false → (c == d) ≡ false
digit_is_other c d h k = by_test (c == d) (λ b. b ≡ false) (λ e. never (sym k ∙ ap is_digit (sym (eqb-true c d e)) ∙ h)) (λ e. refl)

digit_front : (c : ℕ) (w : List ℕ) → is_digit c ≡ true → word_front (c ∷ w) ≡ opens.Operand
unfolding word_front
digit_front c w h = rw (digit_is_other c 78 h refl, digit_is_other c 84 h refl) refl

other_front : (c : ℕ) (s : List ℕ) → (c == 41) ≡ false → (c == 44) ≡ false → (c == 45) ≡ false → front_of (c ∷ s) ≡ word_front (word_at (c ∷ s)).0
unfolding front_of
other_front c s x y z = rw (x, y, z) refl

pub word_front_is : (c : ℕ) (s : List ℕ) → is_word_part c ≡ true → front_of (c ∷ s) ≡ word_front (word_at (c ∷ s)).0
word_front_is c s h = other_front c s (is_other c 41 h refl) (is_other c 44 h refl) (is_other c 45 h refl)

-- a word in front, behind which a word ends
pub front_of_word : (c : ℕ) (w rest : List ℕ) → list_all is_word_part (c ∷ w) ≡ true → ends_name rest ≡ true → front_of (c ∷ w ++ rest) ≡ word_front (c ∷ w)
front_of_word c w rest all e =
    word_front_is c (w ++ rest) (both_true (is_word_part c) (list_all is_word_part w) all).0 ∙ ap (λ parts. word_front parts.0) (word_reads (c ∷ w) rest all e)

quote_front : (s : List ℕ) → front_of (34 ∷ s) ≡ opens.Operand
unfolding front_of word_front
quote_front s = refl

ampersand_front : (s : List ℕ) → front_of (38 ∷ s) ≡ opens.Operand
unfolding front_of word_front
ampersand_front s = refl

bracket_front : (s : List ℕ) → front_of (91 ∷ s) ≡ opens.Operand
unfolding front_of word_front
bracket_front s = refl

pub first_taken : (c : ℕ) (s : List ℕ) → is_word_part c ≡ true → word_at (c ∷ s) ≡ (c ∷ (word_at s).0, (word_at s).1)
first_taken c s h = rw h refl

pub more_start : (s t : List ℕ) → BeginsPath s → BeginsPath (s ++ t)
more_start s t b = record { first = b.first; others = b.others ++ t; are = ap (λ u. u ++ t) b.are; starts = b.starts }

literal_front : (c : ℕ) (s : List ℕ) → is_literal_start c ≡ true → front_of (c ∷ s) ≡ opens.Operand
literal_front c s h =
    ⊎_elim digit
    (λ t. ⊎_elim (λ e. ap (λ d. front_of (d ∷ s)) (eqb-true c 34 e) ∙ quote_front s) (λ e. ap (λ d. front_of (d ∷ s)) (eqb-true c 38 e) ∙ ampersand_front s) (or_cases (c == 34) (c == 38) t))
    (or_cases (is_digit c) (c == 34 || c == 38) h)
  where
    digit : is_digit c ≡ true → front_of (c ∷ s) ≡ opens.Operand
    digit t =
        let word = is_word_digit c t in
        word_front_is c s word ∙ ap (λ parts. word_front parts.0) (first_taken c s word) ∙ digit_front c (word_at s).0 t

path_front : (s : List ℕ) → BeginsPath s → is_bracketed (word_at s).0 ≡ false → front_of s ≡ opens.Operand
path_front s b h =
    ap front_of b.are
    ∙ ⊎_elim (λ e. ap (λ d. front_of (d ∷ b.others)) (eqb-true b.first 91 e) ∙ bracket_front b.others)
    (λ t. word_front_is b.first b.others (both_true (is_word_part b.first) (not (is_digit b.first)) t).0 ∙ ap (λ s. word_front (word_at s).0) (sym b.are) ∙ front_of_name (word_at s).0 h)
    (or_cases (b.first == 91) (is_word_part b.first && not (is_digit b.first)) b.starts)

-- ---- operands

cast_front : (w : CastWord) (s : List ℕ) → front_of (cast_text w ++ (40 ∷ s)) ≡ opens.Operand
unfolding front_of word_front
cast_front word.CBool s = refl
cast_front word.CByte s = refl
cast_front word.CShort s = refl
cast_front word.CInt s = refl
cast_front word.CLng s = refl
cast_front word.CDec s = refl
cast_front word.CStr s = refl
cast_front word.CObj s = refl

boolean_front : (b : Bool) (rest : List ℕ) → ends_name rest ≡ true → front_of (literal_text (boolean b) ++ rest) ≡ opens.Operand
unfolding word_front
boolean_front true rest e = front_of_word 84 (codes "rue") rest refl e
boolean_front false rest e = front_of_word 70 (codes "alse") rest refl e

nothing_front : (rest : List ℕ) → ends_name rest ≡ true → front_of (codes "Nothing" ++ rest) ≡ opens.Operand
unfolding word_front
nothing_front rest e = front_of_word 78 (codes "othing") rest refl e

me_front : (rest : List ℕ) → ends_name rest ≡ true → front_of (codes "Me" ++ rest) ≡ opens.Operand
unfolding word_front
me_front rest e = front_of_word 77 (codes "e") rest refl e

new_front : (s : List ℕ) → front_of (codes "New " ++ s) ≡ opens.Operand
unfolding front_of word_front
new_front s = refl

conversion_front : (s : List ℕ) → front_of (codes "CType(" ++ s) ≡ opens.Operand
unfolding front_of word_front
conversion_front s = refl

opening_front : (s : List ℕ) → front_of (40 ∷ s) ≡ opens.Operand
unfolding front_of word_front
opening_front s = refl

point_front : (s : List ℕ) → front_of (46 ∷ s) ≡ opens.Operand
unfolding front_of word_front
point_front s = refl

-- behind an opening parenthesis an expression begins as an operand
pub operand_front : (e : Exp) (rest : List ℕ) → is_writable_exp e ≡ true → fits_exp e ≡ true → follows e rest ≡ true → front_of (exp_text e ++ rest) ≡ opens.Operand
operand_front (lit l) rest h f e = of_literal l h f
  where
    of_spelt : (l : Literal) → is_no_word l ≡ true → is_writable_literal l ≡ true → fits_literal l ≡ true → front_of (literal_text l ++ rest) ≡ opens.Operand
    of_spelt l k h f =
        let b = literal_begins l k h f in
        ap (λ s. front_of (s ++ rest)) b.are ∙ literal_front b.first (b.others ++ rest) b.starts

    of_literal : (l : Literal) → is_writable_literal l ≡ true → fits_literal l ≡ true → front_of (literal_text l ++ rest) ≡ opens.Operand
    of_literal (boolean b) h f = boolean_front b rest (name_ends (lit l) rest e)
    of_literal (short z x) h f = of_spelt (short z x) refl h f
    of_literal (integer z x) h f = of_spelt (integer z x) refl h f
    of_literal (long z) h f = of_spelt (long z) refl h f
    of_literal (decimal z) h f = of_spelt (decimal z) refl h f
    of_literal (str units) h f = of_spelt (str units) refl h f
operand_front nothing rest h f e = nothing_front rest (name_ends nothing rest e)
operand_front me rest h f e = me_front rest (name_ends me rest e)
operand_front (path []) rest h f e = never h
operand_front (path (n ∷ names)) rest h f e =
    let all = are_identifiers n names h in
    let ends = path_ends (n ∷ names) rest e in
    path_front (path_text (n ∷ names) ++ rest) (more_start (path_text (n ∷ names)) rest (path_start n names all)) (path_word n names rest all ends)
operand_front (with_dot name) rest h f e = point_front (name_text name ++ rest)
operand_front (dot x name) rest h f e =
    let first = both_true (not (is_path_exp x) && is_writable_exp x) (is_identifier name) h in
    let parts = both_true (not (is_path_exp x)) (is_writable_exp x) first.0 in
    let again : exp_text (dot x name) ++ rest ≡ exp_text x ++ (46 ∷ (name_text name ++ rest)) = simp append_assoc in
    ap front_of again ∙ operand_front x (46 ∷ (name_text name ++ rest)) parts.1 (both_true (fits_exp x) (fits_name name) f).0 (follows_member x name rest (not-true (is_path_exp x) parts.0) first.1)
operand_front (call_of x args) rest h f e =
    ap front_of (append_assoc (exp_text x) (arguments_text args) rest)
    ∙ operand_front x (arguments_text args ++ rest) (both_true (is_writable_exp x) (are_writable_exps args) h).0 (both_true (fits_exp x) (fits_exps args) f).0 refl
operand_front (cast w x) rest h f e =
    let again : exp_text (cast w x) ++ rest ≡ cast_text w ++ (40 ∷ (exp_text x ++ (41 ∷ rest))) = simp append_assoc in
    ap front_of again ∙ cast_front w (exp_text x ++ (41 ∷ rest))
operand_front (ctype x t) rest h f e = conversion_front _
operand_front (unary o x) rest h f e = opening_front _
operand_front (binary o a b) rest h f e = opening_front _
operand_front (paren x) rest h f e = opening_front _
operand_front (new_object t args) rest h f e = new_front _
operand_front (new_array t bounds) rest h f e = new_front _
operand_front (type_of x t) rest h f e = opening_front _

-- ---- heads

literal_start_is : (c : ℕ) → is_literal_start c ≡ true → start_of c ≡ start.Literal
unfolding start_of
literal_start_is c h =
    ⊎_elim (λ t. rw t refl) (λ t. ⊎_elim (λ e. ap start_of (eqb-true c 34 e) ∙ refl) (λ e. ap start_of (eqb-true c 38 e) ∙ refl) (or_cases (c == 34) (c == 38) t))
    (or_cases (is_digit c) (c == 34 || c == 38) h)

word_start_is : (c : ℕ) → is_word_part c ≡ true → is_digit c ≡ false → start_of c ≡ start.Word
unfolding start_of
word_start_is c h k = rw (h, k) refl

bracket_start_is : start_of 91 ≡ start.Bracket
unfolding start_of
bracket_start_is = refl

-- a literal in front
pub literal_head : (read : List ℕ → Option (Exp × List ℕ)) (l : Literal) (rest : List ℕ) → is_no_word l ≡ true → is_writable_literal l ≡ true → fits_literal l ≡ true
    → ends_literal rest ≡ true → head_at read (literal_text l ++ rest) ≡ Some (whole (lit l), rest)
literal_head read l rest k h f e =
    let b = literal_begins l k h f in
    let s = literal_text l ++ rest in
    let again : s ≡ b.first ∷ (b.others ++ rest) = ap (λ t. t ++ rest) b.are in
    ap (head_at read) again
    ∙ ap (λ start. behind (started (b.first ∷ (b.others ++ rest)) (b.others ++ rest) start) (opened read)) (literal_start_is b.first b.starts)
    ∙ ap (λ t. behind (behind (literal_at t) (λ l rest. Some (leaf (whole (lit l)), rest))) (opened read)) (sym again)
    ∙ ap (λ o. behind (behind o (λ l rest. Some (leaf (whole (lit l)), rest))) (opened read)) (literal_reads l rest k h f e)

-- a word in front
pub word_head : (read : List ℕ → Option (Exp × List ℕ)) (c : ℕ) (w rest : List ℕ) (o : Option Keyword) → list_all is_word_part (c ∷ w) ≡ true → is_digit c ≡ false → ends_name rest ≡ true
    → keyword_of (c ∷ w) ≡ o → head_at read (c ∷ w ++ rest) ≡ behind (worded rest (c ∷ w ++ rest) o) (opened read)
word_head read c w rest o all d e k =
    ap (λ start. behind (started (c ∷ w ++ rest) (w ++ rest) start) (opened read)) (word_start_is c (both_true (is_word_part c) (list_all is_word_part w) all).0 d)
    ∙ ap (λ (parts : List ℕ × List ℕ). behind (worded parts.1 (c ∷ w ++ rest) (keyword_of parts.0)) (opened read)) (word_reads (c ∷ w) rest all e)
    ∙ ap (λ word. behind (worded rest (c ∷ w ++ rest) word) (opened read)) k

-- a path in front
path_opens : (s : List ℕ) → BeginsPath s → is_bracketed (word_at s).0 ≡ false → opening_at s ≡ path_opening s
path_opens s b h =
    ap opening_at b.are
    ∙ ⊎_elim (λ e. ap (λ d. started (b.first ∷ b.others) b.others (start_of d)) (eqb-true b.first 91 e) ∙ ap (started (b.first ∷ b.others) b.others) bracket_start_is)
    (λ t.
    let parts = both_true (is_word_part b.first) (not (is_digit b.first)) t in
    ap (started (b.first ∷ b.others) b.others) (word_start_is b.first parts.0 (not-true (is_digit b.first) parts.1))
    ∙ ap (worded (word_at (b.first ∷ b.others)).1 (b.first ∷ b.others)) (no_keyword (word_at (b.first ∷ b.others)).0 (ap (λ s. is_bracketed (word_at s).0) (sym b.are) ∙ h)))
    (or_cases (b.first == 91) (is_word_part b.first && not (is_digit b.first)) b.starts)
    ∙ ap path_opening (sym b.are)

pub path_head : (read : List ℕ → Option (Exp × List ℕ)) (n : List ℕ) (names : List (List ℕ)) (rest : List ℕ) → list_all is_identifier (n ∷ names) ≡ true → ends_path rest ≡ true
    → head_at read (path_text (n ∷ names) ++ rest) ≡ Some (whole (path (n ∷ names)), rest)
path_head read n names rest h e =
    ap (λ o. behind o (opened read)) (path_opens (path_text (n ∷ names) ++ rest) (more_start (path_text (n ∷ names)) rest (path_start n names h)) (path_word n names rest h e))
    ∙ ap (λ o. behind (behind o (λ names rest. Some (leaf (whole (path names)), rest))) (opened read)) (names_read n names rest h e)

-- ---- where suffixes end

no_braces : (s : List ℕ) → begins_braces s ≡ false → after (codes " {}") s ≡ None
no_braces [] h = refl
no_braces (c ∷ s) h = by_test (c == 32) (λ b. (b && begins_with 123 s) ≡ false → (if b then after (codes "{}") s else None) ≡ None) (λ t k. second s k) (λ t k. refl) h
  where
    second : (s : List ℕ) → begins_with 123 s ≡ false → after (codes "{}") s ≡ None
    second [] k = refl
    second (d ∷ s) k = rw k refl

pub suffix_ends : (s : List ℕ) → ends_expression s ≡ true → suffix_of s ≡ no_suffix
unfolding suffix_of
suffix_ends [] h = refl
suffix_ends (c ∷ s) h =
    let a = both_true (ends_type (c ∷ s) && not (c == 34)) (not (begins_braces (c ∷ s))) h in
    let b = both_true (ends_type (c ∷ s)) (not (c == 34)) a.0 in
    let t = both_true (ends_path (c ∷ s)) (not (c == 40)) b.0 in
    let p = both_true (ends_name (c ∷ s)) (not (c == 46)) t.0 in
    rw (not-true (c == 46) p.1, not-true (c == 40) t.1) (ap braces_or_none (no_braces (c ∷ s) (not-true (begins_braces (c ∷ s)) a.1)))
