-- Names of tokens are identifiers.
use Rattle.std.proofs.Common.{◌≡◌, ℕ, ◌+◌, ◌==◌, Bool, true, false, not, ◌&&◌, ◌||◌, if◌then◌else◌, nat_le, nat_lt, Option, Some, None, option_map, List, [], ◌∷◌, take, drop, length, refl, ap, ◌∙◌, arith, add_comm, add-one}
use Rattle.std.proofs.lemmas.Bool.Decides.{nat_tests}
use Rattle.std.specs.List.{list_all}
use Rattle.vb_tree.specs.declared.token.Literal6.{Literal6}
use Rattle.vb_tree.specs.declared.token.Literal6.TheVariants as literal
use Rattle.vb_tree.specs.declared.token.Sign.{Sign}
use Rattle.vb_tree.specs.declared.token.Suffix.{Suffix}
use Rattle.vb_tree.specs.declared.token.Token.{Token}
use Rattle.vb_tree.specs.declared.token.TokenKind.{TokenKind}
use Rattle.vb_tree.specs.declared.token.TokenKind.TheVariants as kind
use Rattle.vb_tree.specs.Tokens.{is_letter, is_digit, is_name_unit, run, begins, named, name_suffix, suffix_units, word_at, bracketed_at, literal_of, decimal_at, radix_behind, radix_at, radix_digits, text_from, text_at, is_date, single_sign, double_sign, sign_or, sign_at, token_at}
use Rattle.net_tree.specs.Spelling.{is_word_part, is_identifier}
use Rattle.vb_lexer.proofs.Runs.{run_all}
use Rattle.up_base.proofs.Lists.{both_true, and_true, all_more, all_leads}

-- ---- names

name_unit_is_part : (c : ℕ) → is_name_unit c ≡ true → is_word_part c ≡ true
name_unit_is_part c h = grind (arith, nat_tests)

letter_is_no_digit : (c : ℕ) → is_letter c ≡ true → nat_le 48 c && nat_le c 57 ≡ false
letter_is_no_digit c h = grind (arith, nat_tests)

letter_is_name_unit : (c : ℕ) → is_letter c ≡ true → is_name_unit c ≡ true
letter_is_name_unit c h = ap (λ b. b || is_digit c || c == 95) h

-- units of a name behind a letter
named_units : (units : List ℕ) → begins is_letter units ≡ true → is_identifier (take (run is_name_unit units) units) ≡ true
named_units [] h = absurd (cc h)
named_units (c ∷ units) h =
    let rest : not (nat_le 48 c && nat_le c 57) && list_all is_word_part (c ∷ take (run is_name_unit units) units) ≡ true =
    and_true (not (nat_le 48 c && nat_le c 57)) (list_all is_word_part (c ∷ take (run is_name_unit units) units))
    (ap not (letter_is_no_digit c h))
    (all_more is_word_part c (take (run is_name_unit units) units) (name_unit_is_part c (letter_is_name_unit c h))
    (all_leads is_name_unit is_word_part name_unit_is_part (take (run is_name_unit units) units) (run_all is_name_unit units))) in
    ap (λ b. is_identifier (take (if b then 1 + run is_name_unit units else 0) (c ∷ units))) (letter_is_name_unit c h)
    ∙ rw add_comm (rw add-one rest)

-- ---- kinds of tokens

-- a word's name is an identifier
abbrev pub is_named_kind : TokenKind → Bool
is_named_kind (kind.Word name s) = is_identifier name
is_named_kind (kind.Bracketed name s) = is_identifier name
is_named_kind (kind.Lit l) = true
is_named_kind (kind.Sign s) = true

abbrev pub is_named_token : Token → Bool
is_named_token t = is_named_kind t.kind

-- what is read, if it is a word, is named by an identifier
abbrev pub found_named : Option (TokenKind × ℕ) → Bool
found_named None = true
found_named (Some found) = is_named_kind found.0

either_named : (b : Bool) (x y : Option (TokenKind × ℕ)) → (b ≡ true → found_named x ≡ true) → found_named y ≡ true → found_named (if b then x else y) ≡ true
either_named true x y h k = h refl
either_named false x y h k = k

literal_named : (o : Option Literal6) (n : ℕ) → found_named (literal_of o n) ≡ true
literal_named None n = refl
literal_named (Some l) n = refl

decimal_named : (units : List ℕ) → found_named (decimal_at units) ≡ true
unfolding decimal_at
decimal_named units = literal_named _ _

radix_named : (units : List ℕ) → found_named (radix_at units) ≡ true
unfolding radix_behind
radix_named [] = refl
radix_named (c ∷ units) = literal_named _ _

text_named : (units : List ℕ) → found_named (text_at units) ≡ true
unfolding text_at
text_named units = of_text (text_from units)
  where
    of_text : (o : Option (List ℕ × ℕ)) → found_named (option_map (λ x. (kind.Lit (literal.Str x.0), 1 + x.1)) o) ≡ true
    of_text None = refl
    of_text (Some x) = refl

sign_or_named : (s : Option Sign) (n : ℕ) (other : Option (TokenKind × ℕ)) → found_named other ≡ true → found_named (sign_or s n other) ≡ true
sign_or_named None n other h = h
sign_or_named (Some s) n other h = refl

sign_named : (units : List ℕ) → found_named (sign_at units) ≡ true
unfolding sign_at
sign_named [] = refl
sign_named (c ∷ []) = sign_or_named (single_sign c) 1 None refl
sign_named (c ∷ d ∷ units) = sign_or_named (double_sign c d) 2 _ (sign_or_named (single_sign c) 1 None refl)

named_named : (make : List ℕ → Suffix → TokenKind) (name after : List ℕ) (n : ℕ) → ((s : Suffix) → is_named_kind (make name s) ≡ true) → found_named (named make name after n) ≡ true
unfolding named
named_named make name after n h = of_test (nat_le (length name) 255)
  where
    of_test : (b : Bool) → found_named (if b then Some (make name (name_suffix after), n + suffix_units (name_suffix after)) else None) ≡ true
    of_test true = h (name_suffix after)
    of_test false = refl

word_named : (units : List ℕ) → begins is_letter units ≡ true → found_named (word_at units) ≡ true
unfolding word_at
word_named units h = named_named kind.Word _ _ _ (λ s. named_units units h)

bracketed_named : (units : List ℕ) → found_named (bracketed_at units) ≡ true
unfolding bracketed_at
bracketed_named units =
    either_named (begins is_letter units && begins (λ c. c == 93) (drop (run is_name_unit units) units)) _ None
    (λ e. named_named kind.Bracketed _ _ _ (λ s. named_units units (both_true (begins is_letter units) (begins (λ c. c == 93) (drop (run is_name_unit units) units)) e).0))
    refl

pub read_named : (units : List ℕ) → found_named (token_at units) ≡ true
unfolding token_at
read_named [] = refl
read_named (c ∷ units) =
    either_named (is_letter c) _ _ (λ e. word_named (c ∷ units) e)
    (either_named (is_digit c || (c == 46 && begins is_digit units)) _ _ (λ e. decimal_named (c ∷ units))
    (either_named (c == 34) _ _ (λ e. text_named units)
    (either_named (c == 91) _ _ (λ e. bracketed_named units)
    (either_named (c == 38 && nat_lt 0 (radix_digits units)) _ _ (λ e. radix_named units)
    (either_named (c == 35 && is_date units) _ _ (λ e. refl)
    (sign_named (c ∷ units)))))))
