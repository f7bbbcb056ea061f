-- Literals are read back.
use Rattle.std.proofs.Common.{◌≡◌, ℕ, suc, ◌+◌, ◌-◌, ◌*◌, ◌^◌, ◌/◌, ◌%◌, ◌<◌, ℤ, pos, negsuc, Bool, true, false, not, ◌&&◌, ◌||◌, ◌==◌, nat_le, nat_lt, if◌then◌else◌, List, [], ◌∷◌, ◌++◌, codes, refl, sym, ap, ◌∙◌, arith, append_assoc, eqb-true, lt-ltb, le-ltb, le-leb, leb-true, ltb-true, lt_of_lt_of_le, lt_of_le_of_lt, div-le_self, decimal, Some, lit≤}
use Rattle.std.specs.Char.{encode_utf8}
use Rattle.std.specs.List.{flat_map, list_all}
use Rattle.std.proofs.lemmas.Bool.{not-true}
use Rattle.up_base.specs.Names.{is_printable}
use Rattle.net_tree.specs.Tree as tree
use Rattle.net_tree.specs.Tree.{Literal, boolean, integer, long, short, str}
use Rattle.net_tree.specs.Spelling.{is_word_part}
use Rattle.net_tree.specs.Literals.{amount_text, bit_pattern, fraction_text, hexadecimal, is_writable_literal, literal_text, places_text, quoted_unit}
use Rattle.net_exprs.specs.Ends.{begins_with, ends_name}
use Rattle.net_exprs.specs.Names.{begins_digit, is_digit, numeral_from}
use Rattle.net_exprs.specs.Literals.{bits_literal, decimal_literal, fraction_literal, hexadecimal_integer, hexadecimal_literal, hexadecimal_short, literal_at, places_from, signed_number, text_literal, units_at, with_unit}
use Rattle.net_exprs.specs.Fitting.{fits_half, fits_literal}
use Rattle.net_exprs.proofs.Words.{both_true, by_test, never}
use Rattle.phrase_laws.proofs.Numbers.{decimal_begins, decimal_reads, ends_decimal, ends_numeral, hexadecimal_reads}

-- whether a decimal point and a digit stand at the front
abbrev pub begins_places : List ℕ → Bool
begins_places [] = false
begins_places (c ∷ s) = c == 46 && begins_digit s

-- whether a literal ends before it
abbrev pub ends_literal : List ℕ → Bool
ends_literal s = ends_name s && not (begins_with 34 s) && not (begins_places s)

-- ---- texts

text_ends : (rest : List ℕ) → begins_with 34 rest ≡ false → units_at rest true ≡ Some ([], rest)
text_ends [] e = refl
text_ends (c ∷ s) e = rw (e, units_at) refl

-- a printable unit is one byte
pub one_byte : (u : ℕ) → is_printable u ≡ true → encode_utf8 u ≡ u ∷ []
unfolding encode_utf8
one_byte u h = let high = leb-true u 126 (both_true (nat_le 32 u) (nat_le u 126) h).1 in rw (lt-ltb u 0x80 (omega arith)) refl

units_read : (units rest : List ℕ) → list_all is_printable units ≡ true → begins_with 34 rest ≡ false
    → units_at ((flat_map quoted_unit units ++ codes "\"") ++ rest) false ≡ Some (units, rest)
units_read [] rest h e = text_ends rest e
units_read (u ∷ units) rest h e =
    let parts = both_true (is_printable u) (list_all is_printable units) h in
    unit_reads u units rest parts.0 (units_read units rest parts.1 e)
  where
    unit_reads : (u : ℕ) (units rest : List ℕ) → is_printable u ≡ true → units_at ((flat_map quoted_unit units ++ codes "\"") ++ rest) false ≡ Some (units, rest)
        → units_at (((quoted_unit u ++ flat_map quoted_unit units) ++ codes "\"") ++ rest) false ≡ Some (u ∷ units, rest)
    unit_reads u units rest h more =
        let tail : List ℕ = (flat_map quoted_unit units ++ codes "\"") ++ rest in
        let again : ((quoted_unit u ++ flat_map quoted_unit units) ++ codes "\"") ++ rest ≡ quoted_unit u ++ tail = simp append_assoc in
        ap (λ s. units_at s false) again
        ∙ by_test (u == 34) (λ b. units_at ((if b then codes "\"\"" else encode_utf8 u) ++ tail) false ≡ Some (u ∷ units, rest))
        (λ t. ap (with_unit 34) more ∙ ap (λ v. Some (v ∷ units, rest)) (sym (eqb-true u 34 t)))
        (λ t. ap (λ bytes. units_at (bytes ++ tail) false) (one_byte u h) ∙ plain u tail t ∙ ap (with_unit u) more)
      where
        plain : (u : ℕ) (s : List ℕ) → (u == 34) ≡ false → units_at (u ∷ s) false ≡ with_unit u (units_at s false)
        plain u s t = rw (t, units_at) refl

-- ---- decimal places

digit_of : (x : ℕ) → x < 10 → is_digit (48 + x) ≡ true
digit_of x h = rw (le-leb 48 (48 + x) (omega arith), le-leb (48 + x) 57 (omega arith)) refl

place_step : (w m x : ℕ) (s : List ℕ) → x < 10 → places_from w m ((48 + x) ∷ s) ≡ places_from (w / 10) (m + x * w) s
place_step w m x s h =
    let value : 48 + x - 48 ≡ x = omega arith in
    rw (digit_of x h) (ap (λ d. places_from (w / 10) (m + d * w) s) value)

one_place : (a : ℕ) (rest : List ℕ) → a < 10 → places_from 1000 0 ((48 + a) ∷ 68 ∷ rest) ≡ (0 + a * 1000, 68 ∷ rest)
one_place a rest h = place_step 1000 0 a (68 ∷ rest) h

two_places : (a b : ℕ) (rest : List ℕ) → a < 10 → b < 10 → places_from 1000 0 ((48 + a) ∷ (48 + b) ∷ 68 ∷ rest) ≡ (0 + a * 1000 + b * 100, 68 ∷ rest)
two_places a b rest h i = place_step 1000 0 a ((48 + b) ∷ 68 ∷ rest) h ∙ place_step 100 (0 + a * 1000) b (68 ∷ rest) i

three_places : (a b c : ℕ) (rest : List ℕ) → a < 10 → b < 10 → c < 10
    → places_from 1000 0 ((48 + a) ∷ (48 + b) ∷ (48 + c) ∷ 68 ∷ rest) ≡ (0 + a * 1000 + b * 100 + c * 10, 68 ∷ rest)
three_places a b c rest h i j =
    place_step 1000 0 a ((48 + b) ∷ (48 + c) ∷ 68 ∷ rest) h ∙ place_step 100 (0 + a * 1000) b ((48 + c) ∷ 68 ∷ rest) i
    ∙ place_step 10 (0 + a * 1000 + b * 100) c (68 ∷ rest) j

four_places : (a b c d : ℕ) (rest : List ℕ) → a < 10 → b < 10 → c < 10 → d < 10
    → places_from 1000 0 ((48 + a) ∷ (48 + b) ∷ (48 + c) ∷ (48 + d) ∷ 68 ∷ rest) ≡ (0 + a * 1000 + b * 100 + c * 10 + d * 1, 68 ∷ rest)
four_places a b c d rest h i j k =
    place_step 1000 0 a ((48 + b) ∷ (48 + c) ∷ (48 + d) ∷ 68 ∷ rest) h ∙ place_step 100 (0 + a * 1000) b ((48 + c) ∷ (48 + d) ∷ 68 ∷ rest) i
    ∙ place_step 10 (0 + a * 1000 + b * 100) c ((48 + d) ∷ 68 ∷ rest) j ∙ place_step 1 (0 + a * 1000 + b * 100 + c * 10) d (68 ∷ rest) k

-- what the decimal places are read as, and that they begin with a digit
abbrev ArePlaces : ℕ → List ℕ → List ℕ → Type 0
ArePlaces r rest text = (places_from 1000 0 (text ++ 68 ∷ rest) ≡ (r, 68 ∷ rest)) × (begins_digit (text ++ 68 ∷ rest) ≡ true)

same_places : (r m : ℕ) (rest s : List ℕ) → m ≡ r → places_from 1000 0 s ≡ (m, 68 ∷ rest) → places_from 1000 0 s ≡ (r, 68 ∷ rest)
same_places r m rest s e h = h ∙ ap (λ n. (n, 68 ∷ rest)) e

pub places_read : (r : ℕ) (rest : List ℕ) → r < 10000 → ArePlaces r rest (places_text r)
places_read r rest small =
    by_test (r % 10 == 0) (λ t. ArePlaces r rest (if t then (if r % 100 == 0 then (if r % 1000 == 0 then a ∷ [] else a ∷ b ∷ []) else a ∷ b ∷ c ∷ []) else a ∷ b ∷ c ∷ d ∷ []))
    (λ x. by_test (r % 100 == 0) (λ t. ArePlaces r rest (if t then (if r % 1000 == 0 then a ∷ [] else a ∷ b ∷ []) else a ∷ b ∷ c ∷ []))
    (λ y. by_test (r % 1000 == 0) (λ t. ArePlaces r rest (if t then a ∷ [] else a ∷ b ∷ []))
    (λ z. let none = eqb-true (r % 1000) 0 z in
    (same_places r (0 + (r / 1000) * 1000) rest (a ∷ 68 ∷ rest) (omega arith) (one_place (r / 1000) rest first), starts))
    (λ z. let none = eqb-true (r % 100) 0 y in
    (same_places r (0 + (r / 1000) * 1000 + (r / 100 % 10) * 100) rest (a ∷ b ∷ 68 ∷ rest) (omega arith) (two_places (r / 1000) (r / 100 % 10) rest first (omega arith)), starts)))
    (λ y. let none = eqb-true (r % 10) 0 x in (
      same_places r (0 + (r / 1000) * 1000 + (r / 100 % 10) * 100 + (r / 10 % 10) * 10) rest (a ∷ b ∷ c ∷ 68 ∷ rest) (omega arith)
          (three_places (r / 1000) (r / 100 % 10) (r / 10 % 10) rest first (omega arith) (omega arith)),
      starts,
    )))
    (λ x. (
      same_places r (0 + (r / 1000) * 1000 + (r / 100 % 10) * 100 + (r / 10 % 10) * 10 + (r % 10) * 1) rest (a ∷ b ∷ c ∷ d ∷ 68 ∷ rest) (omega arith)
          (four_places (r / 1000) (r / 100 % 10) (r / 10 % 10) (r % 10) rest first (omega arith) (omega arith) (omega arith)),
      starts,
    ))
  where
    a : ℕ
    a = 48 + r / 1000

    b : ℕ
    b = 48 + r / 100 % 10

    c : ℕ
    c = 48 + r / 10 % 10

    d : ℕ
    d = 48 + r % 10

    first : r / 1000 < 10
    first = omega arith

    starts : is_digit (48 + r / 1000) ≡ true
    starts = digit_of (r / 1000) first

-- ---- numbers

-- where a literal ends, what stands behind a number's digits goes on with no letter and no decimal places
whole_reads : (n : ℕ) (rest : List ℕ) → ends_literal rest ≡ true → decimal_literal n rest ≡ Some (integer (pos n) false, rest)
whole_reads n [] e = refl
whole_reads n (c ∷ s) e =
    let outer = both_true (not (is_word_part c) && not (c == 34)) (not (begins_places (c ∷ s))) e in
    let word : is_word_part c ≡ false = not-true (is_word_part c) (both_true (not (is_word_part c)) (not (c == 34)) outer.0).0 in
    let places : (c == 46 && begins_digit s) ≡ false = not-true (begins_places (c ∷ s)) outer.1 in
    rw (is_none c 83 word refl, is_none c 76 word refl, is_none c 68 word refl, places) refl
  where
    is_none : (c d : ℕ) → is_word_part c ≡ false → is_word_part d ≡ true → (c == d) ≡ false
    is_none c d h k = by_test (c == d) (λ b. b ≡ false) (λ e. never (sym h ∙ ap is_word_part (eqb-true c d e) ∙ k)) (λ e. refl)

-- digits of a number are read as a literal's
digits_first : (n : ℕ) (tail : List ℕ) → n < 10 ^ 64 → ends_numeral 10 tail ≡ true → literal_at (decimal n ++ tail) ≡ decimal_literal n tail
digits_first n tail small e =
    let shape = decimal_begins n small in
    let start : literal_at (decimal n ++ tail) ≡ decimal_literal (numeral_from 10 0 (decimal n ++ tail)).0 (numeral_from 10 0 (decimal n ++ tail)).1
    = rw shape.are (rw shape.digit refl) in
    start ∙ ap (λ (parts : ℕ × List ℕ). decimal_literal parts.0 parts.1) (decimal_reads n tail small e)

sign_of_pos : (half n : ℕ) → nat_lt n half ≡ true → signed_number half n ≡ pos n
sign_of_pos half n h = rw h refl

sign_of_negsuc : (half n : ℕ) → nat_lt n half ≡ true → signed_number half (2 * half - suc n) ≡ negsuc n
sign_of_negsuc half n h =
    let less = ltb-true n half h in
    let large : nat_lt (2 * half - suc n) half ≡ false = le-ltb (2 * half - suc n) half (omega arith) in
    let back : 2 * half - suc (2 * half - suc n) ≡ n = omega arith in
    rw large (ap negsuc back)

short_back : (z : ℤ) → fits_half 0x8000 z ≡ true → signed_number 0x8000 (bit_pattern 16 z) ≡ z
short_back (pos n) h = sign_of_pos 0x8000 n h
short_back (negsuc n) h = sign_of_negsuc 0x8000 n h

integer_back : (z : ℤ) → fits_half 0x8000_0000 z ≡ true → signed_number 0x8000_0000 (bit_pattern 32 z) ≡ z
integer_back (pos n) h = sign_of_pos 0x8000_0000 n h
integer_back (negsuc n) h = sign_of_negsuc 0x8000_0000 n h

-- the bits of a number that fits are few enough
bits_fit : (places half : ℕ) (z : ℤ) → 2 * half ≡ 2 ^ places → fits_half half z ≡ true → nat_lt (bit_pattern places z) (2 * half) ≡ true
bits_fit places half (pos n) e h = let less = ltb-true n half h in lt-ltb n (2 * half) (omega arith)
bits_fit places half (negsuc n) e h = let less = ltb-true n half h in lt-ltb (2 ^ places - suc n) (2 * half) (omega (arith, e, less))

bits_read : (half n : ℕ) (make : ℤ → Literal) (z : ℤ) (rest : List ℕ) → nat_lt n (2 * half) ≡ true → signed_number half n ≡ z → bits_literal half make n rest ≡ Some (make z, rest)
bits_read half n make z rest h e = rw h (ap (λ y. Some (make y, rest)) e)

hexadecimal_first : (m c : ℕ) (rest : List ℕ) → ends_numeral 16 (c ∷ rest) ≡ true
    → literal_at (38 ∷ 72 ∷ (hexadecimal m ++ c ∷ []) ++ rest) ≡ hexadecimal_literal m (c ∷ rest)
hexadecimal_first m c rest e =
    ap (λ digits. hexadecimal_literal (numeral_from 16 0 digits).0 (numeral_from 16 0 digits).1) (append_assoc (hexadecimal m) (c ∷ []) rest)
    ∙ ap (λ (parts : ℕ × List ℕ). hexadecimal_literal parts.0 parts.1) (hexadecimal_reads m (c ∷ rest) e)

amount_reads : (n : ℕ) (rest : List ℕ) → n < 10 ^ 64 → literal_at ((amount_text n ++ codes "D") ++ rest) ≡ Some (tree.decimal (pos n), rest)
amount_reads n rest small = ap literal_at again ∙ by_test (r == 0) (λ b. literal_at (decimal q ++ ((if b then [] else codes "." ++ places_text r) ++ 68 ∷ rest)) ≡ Some (tree.decimal (pos n), rest)) whole broken
  where
    q : ℕ
    q = n / 10000

    r : ℕ
    r = n % 10000

    again : (amount_text n ++ codes "D") ++ rest ≡ decimal (n / 10000) ++ (fraction_text (n % 10000) ++ 68 ∷ rest)
    again = append_assoc (decimal (n / 10000) ++ fraction_text (n % 10000)) (codes "D") rest ∙ append_assoc (decimal (n / 10000)) (fraction_text (n % 10000)) (68 ∷ rest)

    less : n / 10000 < 10 ^ 64
    less = lt_of_le_of_lt (div-le_self n 10000) small

    whole : (r == 0) ≡ true → literal_at (decimal (n / 10000) ++ 68 ∷ rest) ≡ Some (tree.decimal (pos n), rest)
    whole t =
        let none : n % 10000 ≡ 0 = eqb-true (n % 10000) 0 t in
        let back : n / 10000 * 10000 ≡ n = omega arith in
        digits_first (n / 10000) (68 ∷ rest) less refl ∙ ap (λ m. Some (tree.decimal (pos m), rest)) back

    broken : (r == 0) ≡ false → literal_at (decimal (n / 10000) ++ ((codes "." ++ places_text (n % 10000)) ++ 68 ∷ rest)) ≡ Some (tree.decimal (pos n), rest)
    broken t =
        let places = places_read (n % 10000) rest (omega arith) in
        let back : n / 10000 * 10000 + n % 10000 ≡ n = omega arith in
        digits_first (n / 10000) (46 ∷ (places_text (n % 10000) ++ 68 ∷ rest)) less refl
        ∙ point (n / 10000) (places_text (n % 10000) ++ 68 ∷ rest) places.1
        ∙ ap (fraction_literal (n / 10000)) places.0
        ∙ ap (λ m. Some (tree.decimal (pos m), rest)) back
      where
        point : (m : ℕ) (s : List ℕ) → begins_digit s ≡ true → decimal_literal m (46 ∷ s) ≡ fraction_literal m (places_from 1000 0 s)
        point m s h = rw h refl

-- ---- literals

-- whether a literal is none of the words True and False
abbrev pub is_no_word : Literal → Bool
is_no_word (boolean b) = false
is_no_word (short z hexadecimal) = true
is_no_word (integer z hexadecimal) = true
is_no_word (long z) = true
is_no_word (tree.decimal z) = true
is_no_word (str units) = true

pub literal_reads : (l : Literal) (rest : List ℕ) → is_no_word l ≡ true → is_writable_literal l ≡ true → fits_literal l ≡ true → ends_literal rest ≡ true
    → literal_at (literal_text l ++ rest) ≡ Some (l, rest)
literal_reads (boolean b) rest k h f e = never k
literal_reads (short z true) rest k h f e =
    hexadecimal_first (bit_pattern 16 z) 83 rest refl ∙ bits_read 0x8000 (bit_pattern 16 z) hexadecimal_short z rest (bits_fit 16 0x8000 z refl f) (short_back z f)
literal_reads (short (pos n) false) rest k h f e =
    ap literal_at (append_assoc (decimal n) (codes "S") rest) ∙ digits_first n (83 ∷ rest) (lt_of_lt_of_le (ltb-true n (2 ^ 15) f) (lit≤ tt)) refl
literal_reads (short (negsuc n) false) rest k h f e = never h
literal_reads (integer z true) rest k h f e =
    hexadecimal_first (bit_pattern 32 z) 73 rest refl ∙ bits_read 0x8000_0000 (bit_pattern 32 z) hexadecimal_integer z rest (bits_fit 32 0x8000_0000 z refl f) (integer_back z f)
literal_reads (integer (pos n) false) rest k h f e =
    ap literal_at (append_assoc (decimal n) [] rest)
    ∙ digits_first n rest (lt_of_lt_of_le (ltb-true n (2 ^ 31) f) (lit≤ tt)) (ends_decimal rest (both_true (ends_name rest) (not (begins_with 34 rest)) (both_true (ends_name rest && not (begins_with 34 rest)) (not (begins_places rest)) e).0).0)
    ∙ whole_reads n rest e
literal_reads (integer (negsuc n) false) rest k h f e = never h
literal_reads (long (pos n)) rest k h f e =
    ap literal_at (append_assoc (decimal n) (codes "L") rest) ∙ digits_first n (76 ∷ rest) (lt_of_lt_of_le (ltb-true n (2 ^ 63) f) (lit≤ tt)) refl
literal_reads (long (negsuc n)) rest k h f e = never h
literal_reads (tree.decimal (pos n)) rest k h f e = amount_reads n rest (lt_of_lt_of_le (ltb-true n (2 ^ 127) f) (lit≤ tt))
literal_reads (tree.decimal (negsuc n)) rest k h f e = never h
literal_reads (str units) rest k h f e =
    let quote = not-true (begins_with 34 rest) (both_true (ends_name rest) (not (begins_with 34 rest)) (both_true (ends_name rest && not (begins_with 34 rest)) (not (begins_places rest)) e).0).1 in
    ap text_literal (units_read units rest h quote)

-- ---- how a literal begins

abbrev pub is_literal_start : ℕ → Bool
is_literal_start c = is_digit c || (c == 34 || c == 38)

pub record BeginsLiteral (text : List ℕ) : Type 0 where
  pub first : ℕ
  pub others : List ℕ
  pub are : text ≡ first ∷ others
  pub starts : is_literal_start first ≡ true

begins_digits : (n : ℕ) (tail : List ℕ) → n < 10 ^ 64 → BeginsLiteral (decimal n ++ tail)
begins_digits n tail small =
    let shape = decimal_begins n small in
    record { first = shape.first; others = shape.others ++ tail; are = ap (λ ds. ds ++ tail) shape.are; starts = rw shape.digit refl }

begins_text : (s t : List ℕ) → s ≡ t → BeginsLiteral t → BeginsLiteral s
begins_text s t e b = record { first = b.first; others = b.others; are = e ∙ b.are; starts = b.starts }

pub literal_begins : (l : Literal) → is_no_word l ≡ true → is_writable_literal l ≡ true → fits_literal l ≡ true → BeginsLiteral (literal_text l)
literal_begins (boolean b) k h f = never k
literal_begins (short z true) k h f = record { first = 38; others = 72 ∷ hexadecimal (bit_pattern 16 z) ++ codes "S"; are = refl; starts = refl }
literal_begins (short (pos n) false) k h f = begins_digits n (codes "S") (lt_of_lt_of_le (ltb-true n (2 ^ 15) f) (lit≤ tt))
literal_begins (short (negsuc n) false) k h f = never h
literal_begins (integer z true) k h f = record { first = 38; others = 72 ∷ hexadecimal (bit_pattern 32 z) ++ codes "I"; are = refl; starts = refl }
literal_begins (integer (pos n) false) k h f = begins_digits n [] (lt_of_lt_of_le (ltb-true n (2 ^ 31) f) (lit≤ tt))
literal_begins (integer (negsuc n) false) k h f = never h
literal_begins (long (pos n)) k h f = begins_digits n (codes "L") (lt_of_lt_of_le (ltb-true n (2 ^ 63) f) (lit≤ tt))
literal_begins (long (negsuc n)) k h f = never h
literal_begins (tree.decimal (pos n)) k h f =
    begins_text ((decimal (n / 10000) ++ fraction_text (n % 10000)) ++ codes "D") (decimal (n / 10000) ++ (fraction_text (n % 10000) ++ codes "D")) (append_assoc (decimal (n / 10000)) (fraction_text (n % 10000)) (codes "D"))
    (begins_digits (n / 10000) (fraction_text (n % 10000) ++ codes "D") (lt_of_le_of_lt (div-le_self n 10000) (lt_of_lt_of_le (ltb-true n (2 ^ 127) f) (lit≤ tt))))
literal_begins (tree.decimal (negsuc n)) k h f = never h
literal_begins (str units) k h f = record { first = 34; others = flat_map quoted_unit units ++ codes "\""; are = refl; starts = refl }
