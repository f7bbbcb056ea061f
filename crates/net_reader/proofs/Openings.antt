-- How written names and expressions begin and end: they open with no word of lines, and no colon stands at their end.
use Rattle.std.proofs.Common.{◌≡◌, ℕ, zero, suc, ◌/◌, ◌%◌, ◌<◌, Bool, true, false, not, ◌&&◌, ◌||◌, ◌==◌, pos, negsuc, if◌then◌else◌, List, [], ◌∷◌, ◌++◌, map, codes, refl, sym, ap, subst, ◌∙◌, arith, append_assoc, decimal, None}
use Rattle.std.specs.Prelude.{Option}
use Rattle.std.specs.List.{list_all}
use Rattle.std.specs.Fmt.{digits, digit_glyph, digits_onto}
use Rattle.std.specs.Cmp.Lexicographic.{bytes_decides}
use Rattle.std.proofs.lemmas.Bool.{not-true}
use Rattle.std.proofs.lemmas.Bool.Decides.{nat_tests}
use Rattle.net_tree.specs.declared.expression.CastWord.{CastWord}
use Rattle.net_tree.specs.declared.expression.CastWord.TheVariants as word
use Rattle.net_tree.specs.Tree.{Exp, Exps, Literal, binary, boolean, call_of, cast, ctype, dot, integer, lit, long, me, new_array, new_object, nothing, paren, path, short, str, type_of, unary, with_dot}
use Rattle.net_tree.specs.Tree as tree
use Rattle.net_tree.specs.Spelling.{is_bracketed, is_identifier, is_library_path, is_path, is_same_text, is_word_part, name_text, path_text, separated}
use Rattle.net_tree.specs.Literals.{amount_text, fraction_text, is_writable_literal, literal_text}
use Rattle.net_tree.specs.Depth.{is_shallow}
use Rattle.net_tree.specs.Expressions.{arguments_text, cast_text, exp_text, is_path_exp, is_writable_exp, is_writable_whole}
use Rattle.net_exprs.specs.Ends.{ends_name}
use Rattle.net_exprs.specs.Names.{begins_digit, is_digit}
use Rattle.net_exprs.specs.Readers.{look_up}
use Rattle.net_exprs.proofs.Words.{both_true, by_test, is_other, never, not_in_table}
use Rattle.net_reader.proofs.Tests.{if_false}
use Rattle.net_reader.specs.Words.{first_word, keyword_at, line_words, name_words, word_front}

-- ---- beginnings

-- whether a text begins with a character that is neither a blank nor the mark of a comment
abbrev pub begins_text : List ℕ → Bool
begins_text [] = false
begins_text (c ∷ cs) = not (c == 32) && not (c == 39)

pub record Opens (text : List ℕ) : Type 0 where
  pub begins : begins_text text ≡ true
  pub word : (rest : List ℕ) → ends_name rest ≡ true → keyword_at (text ++ rest) ≡ None

pub begins_more : (a b : List ℕ) → begins_text a ≡ true → begins_text (a ++ b) ≡ true
begins_more [] b h = never h
begins_more (c ∷ cs) b h = h

-- what opens a text opens a longer one, where a word ends behind it
pub then_opens : (a : List ℕ) (b : List ℕ) → Opens a → ((rest : List ℕ) → ends_name (b ++ rest) ≡ true) → Opens (a ++ b)
then_opens a b o ends = record {
  begins = begins_more a b o.begins;
  word = λ rest h. ap keyword_at (append_assoc a b rest) ∙ o.word (b ++ rest) (ends rest);
}

word_front_reads : (w rest : List ℕ) → list_all is_word_part w ≡ true → ends_name rest ≡ true → word_front (w ++ rest) ≡ w
word_front_reads [] [] h e = refl
word_front_reads [] (c ∷ cs) h e = rw (not-true (is_word_part c) e) refl
word_front_reads (c ∷ cs) rest h e =
    let both = both_true (is_word_part c) (list_all is_word_part cs) h in
    rw both.0 (ap (λ w. c ∷ w) (word_front_reads cs rest both.1 e))

pub first_word_reads : (n rest : List ℕ) → is_identifier n ≡ true → ends_name rest ≡ true → first_word (n ++ rest) ≡ n
first_word_reads [] rest h e = never h
first_word_reads (c ∷ cs) rest h e =
    let both = both_true (not (is_digit c)) (list_all is_word_part (c ∷ cs)) h in
    if_false (is_digit c) [] (word_front (c ∷ cs ++ rest)) (not-true (is_digit c) both.0) ∙ word_front_reads (c ∷ cs) rest both.1 e

letter_begins : (c : ℕ) (cs : List ℕ) → is_word_part c ≡ true → begins_text (c ∷ cs) ≡ true
letter_begins c cs h = rw (is_other c 32 h refl) (rw (is_other c 39 h refl) refl)

identifier_begins : (n : List ℕ) → is_identifier n ≡ true → begins_text n ≡ true
identifier_begins [] h = never h
identifier_begins (c ∷ cs) h =
    letter_begins c cs (both_true (is_word_part c) (list_all is_word_part cs) (both_true (not (is_digit c)) (list_all is_word_part (c ∷ cs)) h).1).0

-- an identifier that no table has
unlisted_opens : (n : List ℕ) → is_identifier n ≡ true → look_up n line_words ≡ Option.None → Opens n
unlisted_opens n h none = record {
  begins = identifier_begins n h;
  word = λ rest e. ap (λ w. look_up w line_words) (first_word_reads n rest h e) ∙ none;
}

pub name_opens : (n : List ℕ) → is_identifier n ≡ true → Opens (name_text n)
unfolding line_words is_bracketed
name_opens n h =
    by_test (is_bracketed n) (λ b. Opens (if b then codes "[" ++ n ++ codes "]" else n))
    (λ e. record { begins = refl; word = λ rest k. refl })
    (λ e. unlisted_opens n h (not_in_table n line_words e refl))

-- a name is not the word in place of a name
pub name_is_no_word : (n rest : List ℕ) → is_identifier n ≡ true → ends_name rest ≡ true → look_up (first_word (name_text n ++ rest)) name_words ≡ Option.None
unfolding name_words is_bracketed
name_is_no_word n rest h k =
    by_test (is_bracketed n) (λ b. look_up (first_word ((if b then codes "[" ++ n ++ codes "]" else n) ++ rest)) name_words ≡ Option.None)
    (λ e. refl)
    (λ e. ap (λ w. look_up w name_words) (first_word_reads n rest h k) ∙ not_in_table n name_words e refl)

-- ---- digits

digit_shown : (d : ℕ) → d < 10 → is_digit (digit_glyph false d) ≡ true
digit_shown d h = grind (arith, nat_tests)

digits_begin : (k n : ℕ) (acc : List ℕ) → begins_digit acc ≡ true → begins_digit (digits_onto k 10 false n acc) ≡ true
digits_begin zero n acc h = h
digits_begin (suc k) n acc h =
    let shown = digit_shown (n % 10) (omega arith) in
    by_test (n / 10 == 0) (λ b. begins_digit (if b then digit_glyph false (n % 10) ∷ acc else digits_onto k 10 false (n / 10) (digit_glyph false (n % 10) ∷ acc)) ≡ true)
    (λ e. shown) (λ e. digits_begin k (n / 10) (digit_glyph false (n % 10) ∷ acc) shown)

pub decimal_begins : (n : ℕ) → begins_digit (decimal n) ≡ true
unfolding digits
decimal_begins n =
    let shown = digit_shown (n % 10) (omega arith) in
    by_test (n / 10 == 0) (λ b. begins_digit (if b then digit_glyph false (n % 10) ∷ [] else digits_onto 63 10 false (n / 10) (digit_glyph false (n % 10) ∷ [])) ≡ true)
    (λ e. shown) (λ e. digits_begin 63 (n / 10) (digit_glyph false (n % 10) ∷ []) shown)

all_digits : (k n : ℕ) (acc : List ℕ) → list_all is_digit acc ≡ true → list_all is_digit (digits_onto k 10 false n acc) ≡ true
all_digits zero n acc h = h
all_digits (suc k) n acc h =
    let shown : list_all is_digit (digit_glyph false (n % 10) ∷ acc) ≡ true = rw (digit_shown (n % 10) (omega arith)) h in
    by_test (n / 10 == 0) (λ b. list_all is_digit (if b then digit_glyph false (n % 10) ∷ acc else digits_onto k 10 false (n / 10) (digit_glyph false (n % 10) ∷ acc)) ≡ true)
    (λ e. shown) (λ e. all_digits k (n / 10) (digit_glyph false (n % 10) ∷ acc) shown)

pub decimal_digits : (n : ℕ) → list_all is_digit (decimal n) ≡ true
unfolding digits
decimal_digits n = all_digits 64 n [] refl

digits_more : (a b : List ℕ) → begins_digit a ≡ true → begins_digit (a ++ b) ≡ true
digits_more [] b h = never h
digits_more (c ∷ cs) b h = h

pub digit_is_part : (c : ℕ) → is_digit c ≡ true → is_word_part c ≡ true
digit_is_part c h = grind (arith, nat_tests)

pub digit_opens : (text : List ℕ) → begins_digit text ≡ true → Opens text
unfolding line_words
digit_opens [] h = never h
digit_opens (c ∷ cs) h = record {
  begins = letter_begins c cs (digit_is_part c h);
  word = λ rest e. rw h refl;
}

-- ---- literals

literal_opens : (l : Literal) → is_writable_literal l ≡ true → Opens (literal_text l)
unfolding line_words
literal_opens (boolean true) h = unlisted_opens (codes "True") refl refl
literal_opens (boolean false) h = unlisted_opens (codes "False") refl refl
literal_opens (short z true) h = record { begins = refl; word = λ rest e. refl }
literal_opens (short (pos n) false) h = digit_opens (decimal n ++ codes "S") (digits_more (decimal n) (codes "S") (decimal_begins n))
literal_opens (short (negsuc n) false) h = never h
literal_opens (integer z true) h = record { begins = refl; word = λ rest e. refl }
literal_opens (integer (pos n) false) h = digit_opens (decimal n ++ []) (digits_more (decimal n) [] (decimal_begins n))
literal_opens (integer (negsuc n) false) h = never h
literal_opens (long (pos n)) h = digit_opens (decimal n ++ codes "L") (digits_more (decimal n) (codes "L") (decimal_begins n))
literal_opens (long (negsuc n)) h = never h
literal_opens (tree.decimal (pos n)) h =
    digit_opens (amount_text n ++ codes "D") (digits_more (amount_text n) (codes "D") (digits_more (decimal (n / 10000)) (fraction_text (n % 10000)) (decimal_begins (n / 10000))))
literal_opens (tree.decimal (negsuc n)) h = never h
literal_opens (str units) h = record { begins = refl; word = λ rest e. refl }

-- ---- paths

separated_opens : (t : List ℕ) (ts : List (List ℕ)) → Opens t → Opens (separated (codes ".") (t ∷ ts))
separated_opens t [] o = o
separated_opens t (u ∷ ts) o =
    subst Opens (sym (append_assoc t (codes ".") (separated (codes ".") (u ∷ ts))))
    (then_opens t (46 ∷ separated (codes ".") (u ∷ ts)) o (λ rest. refl))

library_opens : (n : List ℕ) → is_same_text n (codes "System") || is_same_text n (codes "Microsoft") ≡ true → Opens n
unfolding line_words
library_opens n h =
    by_test (is_same_text n (codes "System")) (λ b. b || is_same_text n (codes "Microsoft") ≡ true → Opens n)
    (λ e k. subst Opens (sym ((bytes_decides n (codes "System")).0 e)) (unlisted_opens (codes "System") refl refl))
    (λ e k. subst Opens (sym ((bytes_decides n (codes "Microsoft")).0 k)) (unlisted_opens (codes "Microsoft") refl refl))
    h

path_opens : (names : List (List ℕ)) → is_path names ≡ true → Opens (path_text names)
path_opens [] h = never h
path_opens (n ∷ names) h =
    let all = (both_true (list_all is_identifier (n ∷ names)) _ h).0 in
    by_test (is_library_path (n ∷ names)) (λ b. is_library_path (n ∷ names) ≡ b → Opens (separated (codes ".") (if b then n ∷ names else map name_text (n ∷ names))))
    (λ e k. separated_opens n names (library_opens n k))
    (λ e k. separated_opens (name_text n) (map name_text names) (name_opens n (both_true (is_identifier n) (list_all is_identifier names) all).0))
    refl

-- ---- expressions

cast_opens : (w : CastWord) (more : List ℕ) → Opens (cast_text w ++ 40 ∷ more)
unfolding line_words
cast_opens word.CBool more = record { begins = refl; word = λ rest e. refl }
cast_opens word.CByte more = record { begins = refl; word = λ rest e. refl }
cast_opens word.CShort more = record { begins = refl; word = λ rest e. refl }
cast_opens word.CInt more = record { begins = refl; word = λ rest e. refl }
cast_opens word.CLng more = record { begins = refl; word = λ rest e. refl }
cast_opens word.CDec more = record { begins = refl; word = λ rest e. refl }
cast_opens word.CStr more = record { begins = refl; word = λ rest e. refl }
cast_opens word.CObj more = record { begins = refl; word = λ rest e. refl }

reassociated : (a b c d : List ℕ) → a ++ (b ++ (c ++ d)) ≡ a ++ b ++ c ++ d
reassociated a b c d = simp append_assoc

exp_opens : (e : Exp) → is_writable_exp e ≡ true → Opens (exp_text e)
unfolding line_words
exp_opens (lit l) h = literal_opens l h
exp_opens nothing h = unlisted_opens (codes "Nothing") refl refl
exp_opens me h = unlisted_opens (codes "Me") refl refl
exp_opens (path names) h = path_opens names h
exp_opens (with_dot name) h = record { begins = refl; word = λ rest e. refl }
exp_opens (dot e name) h =
    let parts = both_true (not (is_path_exp e) && is_writable_exp e) (is_identifier name) h in
    subst Opens (sym (append_assoc (exp_text e) (codes ".") (name_text name)))
    (then_opens (exp_text e) (46 ∷ name_text name) (exp_opens e (both_true (not (is_path_exp e)) (is_writable_exp e) parts.0).1) (λ rest. refl))
exp_opens (call_of e args) h =
    then_opens (exp_text e) (arguments_text args) (exp_opens e (both_true (is_writable_exp e) _ h).0) (λ rest. refl)
exp_opens (cast w e) h = subst Opens (reassociated (cast_text w) (codes "(") (exp_text e) (codes ")")) (cast_opens w (exp_text e ++ codes ")"))
exp_opens (ctype e t) h = record { begins = refl; word = λ rest e. refl }
exp_opens (unary o e) h = record { begins = refl; word = λ rest e. refl }
exp_opens (binary o a b) h = record { begins = refl; word = λ rest e. refl }
exp_opens (paren e) h = record { begins = refl; word = λ rest e. refl }
exp_opens (new_object t args) h = record { begins = refl; word = λ rest e. refl }
exp_opens (new_array t bounds) h = record { begins = refl; word = λ rest e. refl }
exp_opens (type_of e t) h = record { begins = refl; word = λ rest e. refl }

-- what can stand in a line can be written
pub whole_is_writable : (e : Exp) → is_writable_whole e ≡ true → is_writable_exp e ≡ true
whole_is_writable e h = (both_true (is_shallow e) (is_writable_exp e) h).1

pub whole_opens : (e : Exp) → is_writable_whole e ≡ true → Opens (exp_text e)
whole_opens e h = exp_opens e (whole_is_writable e h)
