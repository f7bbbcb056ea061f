-- Each token of a line is the one that is read at its place, and has the physical line of its place.
use Rattle.std.proofs.Common.{◌≡◌, ℕ, zero, suc, ◌+◌, ◌-◌, ◌<◌, ◌≤◌, ◌==◌, ◌&&◌, ◌||◌, not, Bool, true, false, if◌then◌else◌, is_some, Option, Some, None, option_map, inl, inr, List, [], ◌∷◌, ◌++◌, length, take, drop, arith, refl, ap, subst, sym, ◌∙◌}
use Rattle.std.specs.List.{list_all, AllByRecursion}
use Rattle.std.proofs.lemmas.Bool.Decides.{nat_tests}
use Rattle.vb_tree.specs.declared.token.Sign.TheVariants as sign
use Rattle.vb_tree.specs.declared.token.TokenKind.{TokenKind}
use Rattle.vb_tree.specs.Tokens.{is_blank, is_line_end, is_letter, is_digit, is_digit_of, is_name_unit, is_date_unit, is_exponent, base_of, begins, single_sign, token_at}
use Rattle.vb_tree.specs.TokenClasses.{Shape, word, bracketed, decimal, radix, text, date, sign_of_one, sign_of_two, Exponent, no_exponent, exponent, unit_spelling, fraction_spelling, exponent_spelling, doubled, spelling, is_suffix, IsNameSuffix, IsNumberSuffix, IsRadixSuffix, IsFraction, IsPlusOrMinus, IsExponent, IsShape, kind_of}
use Rattle.vb_tree.specs.LogicalLines.{Part, gap, note, lexeme, stuck, token_part, is_rem, part_at, begins_statement, content_from, joint, joints, IsPlaced}
use Rattle.std.proofs.Math.Seq.{take-add}
use Rattle.vb_lexer.proofs.Runs.{both_true}
use Rattle.vb_lexer.proofs.ReadingContents.{drop_more}
use Rattle.vb_lexer.proofs.PhysicalLines.{joints-append}
use Rattle.token_laws.proofs.LongestOthers.{sign_cases}
use Rattle.token_laws.proofs.OtherShapes.{longest_or_none}

-- No unit of a token ends a line.

unjoined : (p : ℕ → Bool) (units : List ℕ) → ((c : ℕ) → p c ≡ true → is_line_end c ≡ false) → list_all p units ≡ true → joints units ≡ 0
unjoined p [] none h = refl
unjoined p (c ∷ cs) none h =
    let parts = both_true (p c) (list_all p cs) h in
    let rest : joints cs ≡ 0 = unjoined p cs none parts.1 in
    rw (none c parts.0, rest) refl

name_on_line : (c : ℕ) → is_name_unit c ≡ true → is_line_end c ≡ false
name_on_line c h = grind (arith, nat_tests)

digit_on_line : (c : ℕ) → is_digit c ≡ true → is_line_end c ≡ false
digit_on_line c h = grind (arith, nat_tests)

date_on_line : (c : ℕ) → is_date_unit c ≡ true → is_line_end c ≡ false
date_on_line c h = grind (arith, nat_tests)

suffix_on_line : (c : ℕ) → is_suffix c ≡ true → is_line_end c ≡ false
suffix_on_line c h = grind (arith, nat_tests)

exponent_on_line : (c : ℕ) → is_exponent c ≡ true → is_line_end c ≡ false
exponent_on_line c h = grind (arith, nat_tests)

plus_on_line : (c : ℕ) → (c == 43 || c == 45) ≡ true → is_line_end c ≡ false
plus_on_line c h = grind (arith, nat_tests)

radix_suffix_on_line : (c : ℕ) → (c == 37 || c == 38) ≡ true → is_line_end c ≡ false
radix_suffix_on_line c h = grind (arith, nat_tests)

plain_on_line : (c : ℕ) → not (is_line_end c) ≡ true → is_line_end c ≡ false
plain_on_line c h = go (is_line_end c) h
  where
    go : (b : Bool) → not b ≡ true → b ≡ false
    go true h = absurd cc
    go false h = refl

one : (c : ℕ) (units : List ℕ) → is_line_end c ≡ false → joints units ≡ 0 → joints (c ∷ units) ≡ 0
one c units e h = rw (e, h) refl

both : (a b : List ℕ) → joints a ≡ 0 → joints b ≡ 0 → joints (a ++ b) ≡ 0
both a b h i = joints-append a b ∙ ap (λ (n : ℕ). n + joints b) h ∙ ap (λ (n : ℕ). 0 + n) i

name_suffix_joints : (s : Option ℕ) (after : List ℕ) → IsNameSuffix s after → joints (unit_spelling s) ≡ 0
name_suffix_joints None after h = refl
name_suffix_joints (Some c) after h = one c [] (suffix_on_line c h.0) refl

number_suffix_joints : (s : Option ℕ) → IsNumberSuffix s → joints (unit_spelling s) ≡ 0
number_suffix_joints None h = refl
number_suffix_joints (Some c) h = one c [] (suffix_on_line c h.0) refl

radix_suffix_joints : (s : Option ℕ) → IsRadixSuffix s → joints (unit_spelling s) ≡ 0
radix_suffix_joints None h = refl
radix_suffix_joints (Some c) h = one c [] (radix_suffix_on_line c h) refl

sign_joints : (s : Option ℕ) → IsPlusOrMinus s → joints (unit_spelling s) ≡ 0
sign_joints None h = refl
sign_joints (Some c) h = one c [] (plus_on_line c h) refl

fraction_joints : (f : Option (List ℕ)) → IsFraction f → joints (fraction_spelling f) ≡ 0
fraction_joints None h = refl
fraction_joints (Some digits) h = one 46 digits refl (unjoined is_digit digits digit_on_line h)

exponent_joints : (e : Exponent) → IsExponent e → joints (exponent_spelling e) ≡ 0
exponent_joints no_exponent h = refl
exponent_joints (exponent letter s digits) h =
    one letter (unit_spelling s ++ digits) (exponent_on_line letter h.0) (both (unit_spelling s) digits (sign_joints s h.1) (unjoined is_digit digits digit_on_line h.2))

doubled_joints : (units : List ℕ) → list_all (λ c. not (is_line_end c)) units ≡ true → joints (doubled units) ≡ 0
doubled_joints [] h = refl
doubled_joints (c ∷ cs) h =
    let parts = both_true (not (is_line_end c)) (list_all (λ d. not (is_line_end d)) cs) h in
    go (doubled_joints cs parts.1) (plain_on_line c parts.0) (c == 34) refl
  where
    go : joints (doubled cs) ≡ 0 → is_line_end c ≡ false → (b : Bool) → (c == 34) ≡ b → joints (doubled (c ∷ cs)) ≡ 0
    go rest line true q = rw (q, doubled) (one 34 (34 ∷ doubled cs) refl (one 34 (doubled cs) refl rest))
    go rest line false q =
        let plain : c ∷ doubled cs ≡ doubled (c ∷ cs) = rw (q, doubled) refl in
        subst (λ (u : List ℕ). joints u ≡ 0) plain (one c (doubled cs) line rest)

digit_of_on_line : (base c : ℕ) → base ≤ 16 → is_digit_of base c ≡ true → is_line_end c ≡ false
digit_of_on_line base c h e = grind (arith, nat_tests)

base_most : (a b : Bool) → (if a then 16 else if b then 8 else 0) ≤ 16
base_most true b = omega arith
base_most false true = omega arith
base_most false false = omega arith

second_of_two : (a b c d e : Bool) → is_some (if a && d then Some sign.LessEqual else if b && d then Some sign.GreaterEqual else if a && e then Some sign.NotEqual else if c && d then Some sign.ColonEqual else None) ≡ true
    → ((a || b || c) ≡ true) × ((d || e) ≡ true)
second_of_two true b c true e h = (refl, refl)
second_of_two true true c false true h = (refl, refl)
second_of_two true false c false true h = (refl, refl)
second_of_two true true true false false h = absurd cc
second_of_two true true false false false h = absurd cc
second_of_two true false true false false h = absurd cc
second_of_two true false false false false h = absurd cc
second_of_two false true c true e h = (refl, refl)
second_of_two false true true false e h = absurd cc
second_of_two false true false false e h = absurd cc
second_of_two false false true true e h = (refl, refl)
second_of_two false false true false e h = absurd cc
second_of_two false false false d e h = absurd cc

first_on_line : (c : ℕ) → (c == 60 || c == 62 || c == 58) ≡ true → is_line_end c ≡ false
first_on_line c h = grind (arith, nat_tests)

second_on_line : (c : ℕ) → (c == 61 || c == 62) ≡ true → is_line_end c ≡ false
second_on_line c h = grind (arith, nat_tests)

sign_on_line : (c : ℕ) → is_some (single_sign c) ≡ true → is_line_end c ≡ false
sign_on_line c h =
    let P : ℕ → Type 0 = λ k. is_line_end k ≡ false in
    sign_cases P c 40 sign.OpenParen _ refl (
    sign_cases P c 41 sign.CloseParen _ refl (
    sign_cases P c 44 sign.Comma _ refl (
    sign_cases P c 59 sign.Semicolon _ refl (
    sign_cases P c 58 sign.Colon _ refl (
    sign_cases P c 46 sign.Dot _ refl (
    sign_cases P c 33 sign.Bang _ refl (
    sign_cases P c 61 sign.Equal _ refl (
    sign_cases P c 60 sign.Less _ refl (
    sign_cases P c 62 sign.Greater _ refl (
    sign_cases P c 43 sign.Plus _ refl (
    sign_cases P c 45 sign.Minus _ refl (
    sign_cases P c 42 sign.Star _ refl (
    sign_cases P c 47 sign.Slash _ refl (
    sign_cases P c 92 sign.Backslash _ refl (
    sign_cases P c 94 sign.Caret _ refl (
    sign_cases P c 38 sign.Ampersand _ refl (
    sign_cases P c 35 sign.Hash _ refl (
    λ none. absurd cc)))))))))))))))))) h

no_digits : (digits : List ℕ) → 0 < length digits → list_all (is_digit_of 0) digits ≡ true → ⊥
no_digits [] some h = absurd (omega arith)
no_digits (d ∷ ds) some h =
    let parts = both_true (is_digit_of 0 d) (list_all (is_digit_of 0) ds) h in
    let e : is_digit_of 0 d ≡ false = grind (arith, nat_tests) in
    let no : true ≡ false = sym parts.0 ∙ e in
    cc

-- the letter of a base ends no line, since it has digits behind it
letter_on_line : (letter : ℕ) (digits : List ℕ) → list_all (is_digit_of (base_of letter)) digits ≡ true → 0 < length digits → is_line_end letter ≡ false
letter_on_line letter digits h some = go (letter == 10) (letter == 13) refl refl
  where
    go : (a b : Bool) → (letter == 10) ≡ a → (letter == 13) ≡ b → (a || b) ≡ false
    go true b e f = let same : letter ≡ 10 = grind (arith, nat_tests) in absurd (no_digits digits some (subst (λ (l : ℕ). list_all (is_digit_of (base_of l)) digits ≡ true) same h))
    go false true e f = let same : letter ≡ 13 = grind (arith, nat_tests) in absurd (no_digits digits some (subst (λ (l : ℕ). list_all (is_digit_of (base_of l)) digits ≡ true) same h))
    go false false e f = refl

shape_joints : (s : Shape) (after : List ℕ) → IsShape s after → joints (spelling s) ≡ 0
shape_joints (word name s) after h =
    both name (unit_spelling s) (unjoined is_name_unit name name_on_line (both_true (begins is_letter name) (list_all is_name_unit name) h.0).1) (name_suffix_joints s after h.1)
shape_joints (bracketed name s) after h =
    one 91 (name ++ (93 ∷ unit_spelling s)) refl
    (both name (93 ∷ unit_spelling s) (unjoined is_name_unit name name_on_line (both_true (begins is_letter name) (list_all is_name_unit name) h.0).1) (one 93 (unit_spelling s) refl (name_suffix_joints s after h.1)))
shape_joints (decimal whole f e s) after h =
    both whole (fraction_spelling f ++ (exponent_spelling e ++ unit_spelling s)) (unjoined is_digit whole digit_on_line h.0)
    (both (fraction_spelling f) (exponent_spelling e ++ unit_spelling s) (fraction_joints f h.1) (both (exponent_spelling e) (unit_spelling s) (exponent_joints e h.3) (number_suffix_joints s h.4)))
shape_joints (radix letter digits s) after h =
    let most : base_of letter ≤ 16 = base_most (letter == 72 || letter == 104) (letter == 79 || letter == 111) in
    let inside : joints (digits ++ unit_spelling s) ≡ 0 =
    both digits (unit_spelling s) (unjoined (is_digit_of (base_of letter)) digits (λ c e. digit_of_on_line (base_of letter) c most e) h.0) (radix_suffix_joints s h.2) in
    one 38 (letter ∷ (digits ++ unit_spelling s)) refl (one letter (digits ++ unit_spelling s) (letter_on_line letter digits h.0 h.1) inside)
shape_joints (text units) after h = one 34 (doubled units ++ 34 ∷ []) refl (both (doubled units) (34 ∷ []) (doubled_joints units h.0) refl)
shape_joints (date units) after h = one 35 (units ++ 35 ∷ []) refl (both units (35 ∷ []) (unjoined is_date_unit units date_on_line h.0) refl)
shape_joints (sign_of_one c) after h = one c [] (sign_on_line c h) refl
shape_joints (sign_of_two c d) after h =
    let parts = second_of_two (c == 60) (c == 62) (c == 58) (d == 61) (d == 62) h in
    one c (d ∷ []) (first_on_line c parts.0) (one d [] (second_on_line d parts.1) refl)

take_front : (front more : List ℕ) → take (length front) (front ++ more) ≡ front
take_front [] more = refl
take_front (c ∷ front) more = ap (λ (u : List ℕ). c ∷ u) (take_front front more)

pub counted : (kind : TokenKind) (n m : ℕ) (found : Option TokenKind) → ◌≡◌ {A = Option (TokenKind × ℕ)} (Some (kind, n)) (option_map (λ k. (k, m)) found) → m ≡ n
counted kind n m None e = absurd cc
counted kind n m (Some k) e = let pair : (kind, n) ≡ (k, m) = cc in sym (ap (λ (y : TokenKind × ℕ). y.1) pair)

pub no_token : (kind : TokenKind) (n : ℕ) → ◌≡◌ {A = Option (TokenKind × ℕ)} (Some (kind, n)) None → ⊥
no_token kind n e = cc

token_joints : (units : List ℕ) (kind : TokenKind) (n : ℕ) → token_at units ≡ Some (kind, n) → joints (take n units) ≡ 0
token_joints units kind n e = elim (longest_or_none units) [
  | inl l ↦
      let number : length (spelling l.shape) ≡ n = counted kind n (length (spelling l.shape)) (kind_of l.shape) (sym e ∙ l.value) in
      let front : take (length (spelling l.shape)) units ≡ spelling l.shape = ap (take (length (spelling l.shape))) l.stands.spelt ∙ take_front (spelling l.shape) l.stands.after in
      let none : joints (take (length (spelling l.shape)) units) ≡ 0 = ap joints front ∙ shape_joints l.shape l.stands.after l.stands.shaped in
      subst (λ (k : ℕ). joints (take k units) ≡ 0) number none
  | inr none ↦ absurd (no_token kind n (sym e ∙ none.0))
]

-- A line, place by place

pub next_drop : (units : List ℕ) (i c : ℕ) (cs : List ℕ) → drop i units ≡ c ∷ cs → drop (i + 1) units ≡ cs
next_drop units i c cs e = sym (drop_more i 1 units) ∙ ap (drop 1) e

next_joints : (units : List ℕ) (i c : ℕ) (cs : List ℕ) → drop i units ≡ c ∷ cs → joints (take (i + 1) units) ≡ joints (take i units) + joint c
next_joints units i c cs e =
    let split : take (i + 1) units ≡ take i units ++ c ∷ [] = take-add i 1 units ∙ ap (λ (u : List ℕ). take i units ++ take 1 u) e in
    let sum : joints (take i units ++ c ∷ []) ≡ joints (take i units) + (joint c + 0) = joints-append (take i units) (c ∷ []) in
    ap joints split ∙ sum ∙ ap (λ (n : ℕ). joints (take i units) + n) (omega arith)

-- what a token is read from
pub record IsLexeme (units : List ℕ) (kind : TokenKind) (n : ℕ) : Type 0 where
  pub read : token_at units ≡ Some (kind, n)
  pub on_line : begins is_line_end units ≡ false

read_token : (statement : Bool) (found : Option (TokenKind × ℕ)) (kind : TokenKind) (n : ℕ) → token_part statement found ≡ lexeme kind n → found ≡ Some (kind, n)
read_token statement None kind n e = absurd cc
read_token statement (Some found) kind n e = go (statement && is_rem found.0) e
  where
    go : (b : Bool) → if◌then◌else◌ {A = Part} b (note found.1) (lexeme found.0 found.1) ≡ lexeme kind n → Some found ≡ Some (kind, n)
    go true h = absurd cc
    go false h =
        let first : found.0 ≡ kind = cc in
        let second : found.1 ≡ n = cc in
        ap (λ (k : TokenKind). Some (k, found.1)) first ∙ ap (λ (m : ℕ). Some (kind, m)) second

pub lexeme_read : (statement : Bool) (units : List ℕ) (kind : TokenKind) (n : ℕ) → part_at statement units ≡ lexeme kind n → IsLexeme units kind n
unfolding part_at
lexeme_read statement units kind n e = go (begins is_blank units) (begins is_line_end units) (begins (λ c. c == 39) units) refl e
  where
    go : (a b d : Bool) → begins is_line_end units ≡ b
        → if◌then◌else◌ {A = Part} (a || b) gap (if d then note 1 else token_part statement (token_at units)) ≡ lexeme kind n → IsLexeme units kind n
    go true b d l h = absurd cc
    go false true d l h = absurd cc
    go false false true l h = absurd cc
    go false false false l h = record { read = read_token statement (token_at units) kind n h; on_line = l }

skips : (c : ℕ) (cs : List ℕ) (k : ℕ) → joints (take (suc k) (c ∷ cs)) ≡ 0 → (joint c ≡ 0) × (joints (take k cs) ≡ 0)
skips c cs k h = (omega arith, omega arith)

fewer : (c : ℕ) (cs : List ℕ) (n : ℕ) → joints (take n (c ∷ cs)) ≡ 0 → joints (take (n - 1) cs) ≡ 0
fewer c cs zero h = refl
fewer c cs (suc n) h =
    let less : n ≡ suc n - 1 = omega arith in
    subst (λ (k : ℕ). joints (take k cs) ≡ 0) less (skips c cs n h).1

placed_from : (units : List ℕ) (number : ℕ) (before : List TokenKind) (line i inside : ℕ) (rest : List ℕ) → drop i units ≡ rest → line ≡ number + joints (take i units) → joints (take inside rest) ≡ 0
    → AllByRecursion (IsPlaced units number) (content_from before line i inside rest).tokens
placed_from units number before line i inside [] e l h = tt
placed_from units number before line i (suc inside) (c ∷ cs) e l h =
    let parts = skips c cs inside h in
    let none : joint c ≡ 0 = parts.0 in
    let next : joints (take (i + 1) units) ≡ joints (take i units) + joint c = next_joints units i c cs e in
    placed_from units number before line (i + 1) inside cs (next_drop units i c cs e) (omega arith) parts.1
placed_from units number before line i zero (c ∷ cs) e l h = go (part_at (begins_statement before) (c ∷ cs)) refl
    (λ m k b u w. placed_from units number b m (i + 1) k cs (next_drop units i c cs e) u w)
  where
    go : (p : Part) → part_at (begins_statement before) (c ∷ cs) ≡ p
        → ((m k : ℕ) (b : List TokenKind) → m ≡ number + joints (take (i + 1) units) → joints (take k cs) ≡ 0 → AllByRecursion (IsPlaced units number) (content_from b m (i + 1) k cs).tokens)
        → AllByRecursion (IsPlaced units number) (content_from before line i 0 (c ∷ cs)).tokens
    go gap q more =
        let next : joints (take (i + 1) units) ≡ joints (take i units) + joint c = next_joints units i c cs e in
        rw (q, content_from) (more (line + joint c) 0 before (omega arith) refl)
    go (note n) q more = rw (q, content_from) tt
    go stuck q more = rw (q, content_from) tt
    go (lexeme kind n) q more =
        let read : IsLexeme (c ∷ cs) kind n = lexeme_read (begins_statement before) (c ∷ cs) kind n q in
        let none : joint c ≡ 0 = rw read.on_line refl in
        let next : joints (take (i + 1) units) ≡ joints (take i units) + joint c = next_joints units i c cs e in
        let size : n ≡ (i + n) - i = omega arith in
        let there : token_at (drop i units) ≡ Some (kind, (i + n) - i) = ap token_at e ∙ read.read ∙ ap (λ (m : ℕ). Some (kind, m)) size in
        rw (q, content_from) (record { read = there; line = l }, more line (n - 1) (kind ∷ before) (omega arith) (fewer c cs n (token_joints (c ∷ cs) kind n read.read)))

pub placed : (units : List ℕ) (number : ℕ) → AllByRecursion (IsPlaced units number) (content_from [] number 0 0 units).tokens
placed units number = placed_from units number [] number 0 0 units refl (omega arith) refl
