-- Numbers and labels are read back.
use Rattle.std.proofs.Common.{◌≡◌, ℕ, ◌+◌, ◌*◌, ◌^◌, ◌<◌, Bool, true, false, not, ◌==◌, nat_lt, cond, if◌then◌else◌, List, [], ◌∷◌, ◌++◌, length, map, codes, refl, sym, ap, ◌∙◌, arith, eqb-true, lt-ltb, le-ltb, ltb-true, ltb-false, lt_of_lt_of_le, decimal, Some, lit≤}
use Rattle.std.specs.Char.{digit_value}
use Rattle.std.specs.Fmt.{digit_glyph}
use Rattle.std.specs.Int.Digits.{AllBelowBase, digits_of, number_from_digits_after}
use Rattle.std.specs.List.{list_all}
use Rattle.std.specs.Str.Parse.{AllDigits, digits_value_after}
use Rattle.std.proofs.lemmas.Bool.{not-true}
use Rattle.std.proofs.lemmas.Bool.Decides.{nat_tests}
use Rattle.std.proofs.lemmas.Fmt.{decimal_is_IsNumeral_wide}
use Rattle.std.proofs.lemmas.Int.Digits.{all_below_base_digits_of, number_digits_of}
use Rattle.std.proofs.lemmas.Str.Parse.{digit_from_value}
use Rattle.net_tree.specs.declared.line.NetLabel.TheVariants.{Word, Number}
use Rattle.net_tree.specs.Spelling.{is_bracketed, is_identifier, is_word_part, name_text}
use Rattle.net_tree.specs.Literals.{hexadecimal}
use Rattle.net_exprs.specs.Readers.{behind}
use Rattle.net_exprs.specs.Ends.{ends_name}
use Rattle.net_exprs.specs.Names.{begins_digit, is_digit, number_at, numeral_from}
use Rattle.net_exprs.specs.Laws.{LabelsAreRead}
use Rattle.net_exprs.proofs.Words.{both_true, by_test, name_reads, never}

-- whether no digit of a base stands at the front
abbrev pub ends_numeral : (base : ℕ) → List ℕ → Bool
ends_numeral base [] = true
ends_numeral base (c ∷ s) = not (nat_lt (digit_value c) base)

pub numeral_reads : (base n : ℕ) (ds rest : List ℕ) → AllDigits base ds → ends_numeral base rest ≡ true
    → numeral_from base n (ds ++ rest) ≡ (digits_value_after base n ds, rest)
numeral_reads base n [] [] all e = refl
numeral_reads base n [] (c ∷ s) all e = rw (not-true (nat_lt (digit_value c) base) e) refl
numeral_reads base n (d ∷ ds) rest all e =
    rw (lt-ltb (digit_value d) base all.0) (numeral_reads base (n * base + digit_value d) ds rest all.1 e)

-- ---- decimal digits

digit_range : (c : ℕ) → digit_value c < 10 → is_digit c ≡ true
digit_range c h = let range = digit_from_value c h in grind (arith, nat_tests)

pub is_word_digit : (c : ℕ) → is_digit c ≡ true → is_word_part c ≡ true
is_word_digit c h = grind (arith, nat_tests)

-- a decimal number ends where a name does
pub ends_decimal : (rest : List ℕ) → ends_name rest ≡ true → ends_numeral 10 rest ≡ true
ends_decimal [] e = refl
ends_decimal (c ∷ s) e =
    by_test (nat_lt (digit_value c) 10) (λ b. not b ≡ true)
    (λ t. never (sym (not-true (is_word_part c) e) ∙ is_word_digit c (digit_range c (ltb-true (digit_value c) 10 t)))) (λ t. refl)

-- digits of which the first is shown
pub record BeginsDigit (ds : List ℕ) : Type 0 where
  pub first : ℕ
  pub others : List ℕ
  pub are : ds ≡ first ∷ others
  pub digit : is_digit first ≡ true

first_digit : (ds : List ℕ) → 0 < length ds → AllDigits 10 ds → BeginsDigit ds
first_digit [] some all = absurd (omega arith)
first_digit (d ∷ ds) some all = record { first = d; others = ds; are = refl; digit = digit_range d all.0 }

pub decimal_begins : (n : ℕ) → n < 10 ^ 64 → BeginsDigit (decimal n)
decimal_begins n small = let shape = (decimal_is_IsNumeral_wide n small).0 in first_digit (decimal n) shape.0 shape.1

pub begins_decimal : (n : ℕ) (rest : List ℕ) → n < 10 ^ 64 → begins_digit (decimal n ++ rest) ≡ true
begins_decimal n rest small =
    let shape = decimal_begins n small in ap (λ ds. begins_digit (ds ++ rest)) shape.are ∙ shape.digit

pub decimal_reads : (n : ℕ) (rest : List ℕ) → n < 10 ^ 64 → ends_numeral 10 rest ≡ true → numeral_from 10 0 (decimal n ++ rest) ≡ (n, rest)
decimal_reads n rest small e =
    let shape = decimal_is_IsNumeral_wide n small in
    numeral_reads 10 0 (decimal n) rest shape.0.1 e ∙ ap (λ m. (m, rest)) shape.1

pub number_reads : (n : ℕ) (rest : List ℕ) → n < 10 ^ 64 → ends_numeral 10 rest ≡ true → number_at (decimal n ++ rest) ≡ Some (n, rest)
number_reads n rest small e = rw (begins_decimal n rest small) (ap (λ parts. Some parts) (decimal_reads n rest small e))

-- ---- hexadecimal digits

glyph_value : (d : ℕ) → d < 16 → digit_value (digit_glyph true d) ≡ d
glyph_value d small = by_test (nat_lt d 10) (λ b. digit_value (cond b (48 + d) (55 + d)) ≡ d) below above
  where
    below : nat_lt d 10 ≡ true → digit_value (48 + d) ≡ d
    below t =
        let less = ltb-true d 10 t in
        let low : nat_lt (48 + d) 48 ≡ false = le-ltb (48 + d) 48 (omega arith) in
        let high : nat_lt (48 + d) 58 ≡ true = lt-ltb (48 + d) 58 (omega arith) in
        rw (low, high) (omega arith)

    above : nat_lt d 10 ≡ false → digit_value (55 + d) ≡ d
    above t =
        let more = ltb-false d 10 t in
        let a : nat_lt (55 + d) 48 ≡ false = le-ltb (55 + d) 48 (omega arith) in
        let b : nat_lt (55 + d) 58 ≡ false = le-ltb (55 + d) 58 (omega arith) in
        let c : nat_lt (55 + d) 65 ≡ false = le-ltb (55 + d) 65 (omega arith) in
        let e : nat_lt (55 + d) 91 ≡ true = lt-ltb (55 + d) 91 (omega arith) in
        rw (a, b, c, e) (omega arith)

glyphs_read : (n : ℕ) (ds rest : List ℕ) → AllBelowBase 16 ds → ends_numeral 16 rest ≡ true
    → numeral_from 16 n (map (digit_glyph true) ds ++ rest) ≡ (number_from_digits_after 16 n ds, rest)
glyphs_read n [] rest all e = numeral_reads 16 n [] rest tt e
glyphs_read n (d ∷ ds) rest all e = step (digit_glyph true d) (glyph_value d all.0) (glyphs_read (n * 16 + d) ds rest all.1 e)
  where
    step : (c : ℕ) → digit_value c ≡ d → numeral_from 16 (n * 16 + d) (map (digit_glyph true) ds ++ rest) ≡ (number_from_digits_after 16 (n * 16 + d) ds, rest)
        → numeral_from 16 n (c ∷ (map (digit_glyph true) ds ++ rest)) ≡ (number_from_digits_after 16 (n * 16 + d) ds, rest)
    step c v more = rw (lt-ltb (digit_value c) 16 (omega (arith, v, all.0))) (ap (λ m. numeral_from 16 (n * 16 + m) (map (digit_glyph true) ds ++ rest)) v ∙ more)

pub hexadecimal_reads : (n : ℕ) (rest : List ℕ) → ends_numeral 16 rest ≡ true → numeral_from 16 0 (hexadecimal n ++ rest) ≡ (n, rest)
hexadecimal_reads n rest e =
    by_test (n == 0) (λ b. numeral_from 16 0 ((if b then codes "0" else map (digit_glyph true) (digits_of 16 n)) ++ rest) ≡ (n, rest)) none some
  where
    none : (n == 0) ≡ true → numeral_from 16 0 (48 ∷ rest) ≡ (n, rest)
    none t = numeral_reads 16 0 [] rest tt e ∙ ap (λ m. (m, rest)) (sym (eqb-true n 0 t))

    some : (n == 0) ≡ false → numeral_from 16 0 (map (digit_glyph true) (digits_of 16 n) ++ rest) ≡ (n, rest)
    some t = glyphs_read 0 (digits_of 16 n) rest (all_below_base_digits_of 16 n (omega arith)) e ∙ ap (λ m. (m, rest)) (number_digits_of 16 n (omega arith))

-- ---- labels

-- what a name is written as begins with no digit
pub begins_no_digit : (n rest : List ℕ) → is_identifier n ≡ true → begins_digit (name_text n ++ rest) ≡ false
begins_no_digit n rest h =
    by_test (is_bracketed n) (λ b. begins_digit ((if b then codes "[" ++ n ++ codes "]" else n) ++ rest) ≡ false) (λ b. refl) (λ b. plain n h)
  where
    plain : (n : List ℕ) → is_identifier n ≡ true → begins_digit (n ++ rest) ≡ false
    plain [] h = never h
    plain (c ∷ cs) h = not-true (is_digit c) (both_true (not (is_digit c)) (list_all is_word_part (c ∷ cs)) h).0

pub label_reads : LabelsAreRead
label_reads (Word name) rest h fits e = rw (begins_no_digit name rest h) (ap (λ o. behind o (λ name rest. Some (Word name, rest))) (name_reads name rest h e))
label_reads (Number n) rest h fits e =
    let small : n < 10 ^ 64 = lt_of_lt_of_le (ltb-true n (2 ^ 32) fits) (lit≤ tt) in
    rw (begins_decimal n rest small) (ap (λ (parts : ℕ × List ℕ). Some (Number parts.0, parts.1)) (decimal_reads n rest small (ends_decimal rest e)))
