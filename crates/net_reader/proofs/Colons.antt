-- No expression has a colon at its end.
use Rattle.std.proofs.Common.{◌≡◌, ℕ, true, false, not, ◌&&◌, pos, negsuc, if◌then◌else◌, List, [], ◌∷◌, ◌++◌, map, codes, refl, subst, ◌∙◌, map-id, decimal}
use Rattle.std.specs.List.{list_all, flat_map}
use Rattle.net_tree.specs.Tree.{Exp, Exps, Literal, binary, boolean, call_of, cast, ctype, dot, integer, lit, long, me, new_array, new_object, nothing, paren, path, short, str, type_of, unary, with_dot}
use Rattle.net_tree.specs.Tree as tree
use Rattle.net_tree.specs.Spelling.{is_bracketed, is_identifier, is_library_path, is_path, is_word_part, name_text, path_text, separated}
use Rattle.net_tree.specs.Literals.{amount_text, is_writable_literal, literal_text, quoted_unit, whole_text}
use Rattle.net_tree.specs.Expressions.{cast_text, exp_text, exp_texts, is_path_exp, is_writable_exp, is_writable_whole, operator_text, type_text, unary_text}
use Rattle.net_exprs.specs.Names.{is_digit}
use Rattle.net_exprs.proofs.Words.{both_true, by_test, is_other, is_word, never}
use Rattle.net_reader.specs.Words.{ends_with}
use Rattle.net_reader.proofs.Openings.{decimal_digits, digit_is_part, whole_is_writable}
use Rattle.net_reader.proofs.Tests.{all_more}

abbrev pub EndsOther : List ℕ → Type 0
EndsOther text = ends_with 58 text ≡ false

-- the last part of a text has its end
pub ends_last : (a : List ℕ) (c : ℕ) (cs : List ℕ) → ends_with 58 (a ++ c ∷ cs) ≡ ends_with 58 (c ∷ cs)
ends_last [] c cs = refl
ends_last (x ∷ []) c cs = refl
ends_last (x ∷ y ∷ xs) c cs = ends_last (y ∷ xs) c cs

pub ends_both : (a b : List ℕ) → EndsOther a → EndsOther b → EndsOther (a ++ b)
ends_both [] b h k = k
ends_both (x ∷ []) [] h k = h
ends_both (x ∷ []) (y ∷ ys) h k = k
ends_both (x ∷ y ∷ xs) b h k = ends_both (y ∷ xs) b h k

word_ends : (w : List ℕ) → list_all is_word_part w ≡ true → EndsOther w
word_ends [] h = refl
word_ends (c ∷ []) h = is_other c 58 (both_true (is_word_part c) true h).0 refl
word_ends (c ∷ d ∷ cs) h = word_ends (d ∷ cs) (both_true (is_word_part c) (list_all is_word_part (d ∷ cs)) h).1

name_ends : (n : List ℕ) → is_identifier n ≡ true → EndsOther (name_text n)
name_ends n h =
    by_test (is_bracketed n) (λ b. EndsOther (if b then codes "[" ++ n ++ codes "]" else n))
    (λ e. ends_last (91 ∷ n) 93 []) (λ e. word_ends n (is_word n h))

plain_ends : (n : List ℕ) → is_identifier n ≡ true → EndsOther n
plain_ends n h = word_ends n (is_word n h)

names_end : (spell : List ℕ → List ℕ) → ((n : List ℕ) → is_identifier n ≡ true → EndsOther (spell n)) → (names : List (List ℕ)) →
    list_all is_identifier names ≡ true → EndsOther (separated (codes ".") (map spell names))
names_end spell each [] h = refl
names_end spell each (n ∷ []) h = each n (both_true (is_identifier n) true h).0
names_end spell each (n ∷ m ∷ names) h =
    ends_both (spell n ++ codes ".") (separated (codes ".") (map spell (m ∷ names))) (ends_last (spell n) 46 [])
    (names_end spell each (m ∷ names) (both_true (is_identifier n) (list_all is_identifier (m ∷ names)) h).1)

path_ends : (names : List (List ℕ)) → is_path names ≡ true → EndsOther (path_text names)
path_ends [] h = never h
path_ends (n ∷ names) h =
    let all = (both_true (list_all is_identifier (n ∷ names)) _ h).0 in
    by_test (is_library_path (n ∷ names)) (λ b. EndsOther (separated (codes ".") (if b then n ∷ names else map name_text (n ∷ names))))
    (λ e. subst (λ texts. EndsOther (separated (codes ".") texts)) (map-id (n ∷ names)) (names_end (λ n. n) plain_ends (n ∷ names) all))
    (λ e. names_end name_text name_ends (n ∷ names) all)

decimal_ends : (n : ℕ) → EndsOther (decimal n)
decimal_ends n = word_ends (decimal n) (all_more is_digit is_word_part (decimal n) digit_is_part (decimal_digits n))

literal_ends : (l : Literal) → is_writable_literal l ≡ true → EndsOther (literal_text l)
literal_ends (boolean true) h = refl
literal_ends (boolean false) h = refl
literal_ends (short z hexadecimal) h = ends_last (whole_text 16 hexadecimal z) 83 []
literal_ends (integer z true) h = ends_last (whole_text 32 true z) 73 []
literal_ends (integer (pos n) false) h = ends_both (decimal n) [] (decimal_ends n) refl
literal_ends (integer (negsuc n) false) h = never h
literal_ends (long (pos n)) h = ends_last (decimal n) 76 []
literal_ends (long (negsuc n)) h = never h
literal_ends (tree.decimal (pos n)) h = ends_last (amount_text n) 68 []
literal_ends (tree.decimal (negsuc n)) h = never h
literal_ends (str units) h = ends_last (34 ∷ flat_map quoted_unit units) 34 []

pub parentheses_end : (a : List ℕ) (texts : List (List ℕ)) → EndsOther (a ++ (40 ∷ separated (codes ", ") texts ++ codes ")"))
parentheses_end a texts = ends_last a 40 (separated (codes ", ") texts ++ codes ")") ∙ ends_last (40 ∷ separated (codes ", ") texts) 41 []

exp_ends : (e : Exp) → is_writable_exp e ≡ true → EndsOther (exp_text e)
exp_ends (lit l) h = literal_ends l h
exp_ends nothing h = refl
exp_ends me h = refl
exp_ends (path names) h = path_ends names h
exp_ends (with_dot name) h = ends_both (codes ".") (name_text name) refl (name_ends name h)
exp_ends (dot e name) h =
    ends_both (exp_text e ++ codes ".") (name_text name) (ends_last (exp_text e) 46 []) (name_ends name (both_true (not (is_path_exp e) && is_writable_exp e) (is_identifier name) h).1)
exp_ends (call_of e args) h = parentheses_end (exp_text e) (exp_texts args)
exp_ends (cast w e) h = ends_last (cast_text w ++ codes "(" ++ exp_text e) 41 []
exp_ends (ctype e t) h = ends_last (codes "CType(" ++ exp_text e ++ codes ", " ++ type_text t) 41 []
exp_ends (unary o e) h = ends_last (codes "(" ++ unary_text o ++ exp_text e) 41 []
exp_ends (binary o a b) h = ends_last (codes "(" ++ exp_text a ++ operator_text o ++ exp_text b) 41 []
exp_ends (paren e) h = ends_last (codes "(" ++ exp_text e) 41 []
exp_ends (new_object t args) h = parentheses_end (codes "New " ++ type_text t) (exp_texts args)
exp_ends (new_array t bounds) h = ends_last (codes "New " ++ type_text t ++ (40 ∷ separated (codes ", ") (exp_texts bounds) ++ codes ")")) 32 (codes "{}")
exp_ends (type_of e t) h = ends_last (codes "(TypeOf " ++ exp_text e ++ codes " Is " ++ type_text t) 41 []

pub whole_ends : (e : Exp) → is_writable_whole e ≡ true → EndsOther (exp_text e)
whole_ends e h = exp_ends e (whole_is_writable e h)
