-- The tokens of a logical line, class by class: what a front of the line is, and of how many units. A line's text is a list
-- of UTF-16 units in which a continuation stands as one line feed. (MS-VBAL, lexical tokens.)
use Rattle.std.specs.Prelude.{ℕ, ◌+◌, ◌-◌, ◌*◌, ◌^◌, ℤ, pos, ◌-ℤ◌, Bool, true, false, not, ◌&&◌, ◌||◌, if◌then◌else◌, ◌==◌, nat_le, nat_lt, List, [], ◌∷◌, take, drop, length, Option, Some, None, option_map}
use Rattle.vb_tree.specs.declared.token.Literal6.{Literal6}
use Rattle.vb_tree.specs.declared.token.Literal6.TheVariants as literal
use Rattle.vb_tree.specs.declared.token.Sign.{Sign}
use Rattle.vb_tree.specs.declared.token.Sign.TheVariants as sign
use Rattle.vb_tree.specs.declared.token.Suffix.{Suffix}
use Rattle.vb_tree.specs.declared.token.Suffix.TheVariants as suffix
use Rattle.vb_tree.specs.declared.token.TokenKind.{TokenKind}
use Rattle.vb_tree.specs.declared.token.TokenKind.TheVariants as kind

-- a space or a tab
abbrev pub is_blank : ℕ → Bool
is_blank c = c == 32 || c == 9

-- a line feed or a carriage return
abbrev pub is_line_end : ℕ → Bool
is_line_end c = c == 10 || c == 13

abbrev pub is_letter : ℕ → Bool
is_letter c = (nat_le 65 c && nat_le c 90) || (nat_le 97 c && nat_le c 122)

-- what a unit counts as a digit; 16 where it is none
abbrev pub digit_value : ℕ → ℕ
digit_value c =
    if nat_le 48 c && nat_le c 57 then c - 48
    else if nat_le 65 c && nat_le c 70 then c - 55
    else if nat_le 97 c && nat_le c 102 then c - 87
    else 16

abbrev pub is_digit_of : ℕ → ℕ → Bool
is_digit_of base c = nat_lt (digit_value c) base

abbrev pub is_digit : ℕ → Bool
is_digit c = is_digit_of 10 c

abbrev pub is_name_unit : ℕ → Bool
is_name_unit c = is_letter c || is_digit c || c == 95

-- how many units at the front pass the test
abbrev pub run : (ℕ → Bool) → List ℕ → ℕ
run p [] = 0
run p (c ∷ cs) = if p c then 1 + run p cs else 0

-- whether the first unit passes the test
abbrev pub begins : (ℕ → Bool) → List ℕ → Bool
begins p [] = false
begins p (c ∷ cs) = p c

-- the number that digits stand for, behind digits that stand for n
abbrev pub value_from : (base n : ℕ) → List ℕ → ℕ
value_from base n [] = n
value_from base n (c ∷ cs) = value_from base (n * base + digit_value c) cs

-- Suffixes

abbrev pub suffix_of : ℕ → Suffix
suffix_of c =
    if c == 37 then suffix.Integer
    else if c == 38 then suffix.Long
    else if c == 64 then suffix.Currency
    else if c == 36 then suffix.Str
    else if c == 33 then suffix.Single
    else if c == 35 then suffix.Double
    else suffix.Absent

-- a suffix is one unit
abbrev pub suffix_units : Suffix → ℕ
suffix_units suffix.Absent = 0
suffix_units _ = 1

-- the suffix of a name that these units follow: a `!` before a letter is a sign
abbrev pub name_suffix : List ℕ → Suffix
name_suffix [] = suffix.Absent
name_suffix (c ∷ after) = if c == 33 && begins is_letter after then suffix.Absent else suffix_of c

-- the suffix of a decimal number: `$` is none
abbrev pub number_suffix : List ℕ → Suffix
number_suffix [] = suffix.Absent
number_suffix (c ∷ after) = if c == 36 then suffix.Absent else suffix_of c

-- the suffix of a hexadecimal or octal number: `%` or `&`
abbrev pub radix_suffix : List ℕ → Suffix
radix_suffix [] = suffix.Absent
radix_suffix (c ∷ after) = if c == 37 || c == 38 then suffix_of c else suffix.Absent

-- Words: a letter, then letters, digits and underscores, 255 in all at most

-- a name, then its suffix; the units are those before the suffix
unfoldable pub named : (List ℕ → Suffix → TokenKind) → (name after : List ℕ) → (units : ℕ) → Option (TokenKind × ℕ)
named make name after units =
    if nat_le (length name) 255
    then Some (make name (name_suffix after), units + suffix_units (name_suffix after))
    else None

unfoldable pub word_at : List ℕ → Option (TokenKind × ℕ)
word_at units = let n = run is_name_unit units in named kind.Word (take n units) (drop n units) n

-- a word in brackets, from behind its opening bracket
unfoldable pub bracketed_at : List ℕ → Option (TokenKind × ℕ)
bracketed_at units =
    let n = run is_name_unit units in
    if begins is_letter units && begins (λ c. c == 93) (drop n units)
    then named kind.Bracketed (take n units) (drop (n + 1) units) (n + 2)
    else None

-- Decimal numbers: digits, a point and digits, an exponent, a suffix

-- a point and the digits behind it
abbrev pub fraction_units : List ℕ → ℕ
fraction_units [] = 0
fraction_units (c ∷ units) = if c == 46 then 1 + run is_digit units else 0

-- E or D
abbrev pub is_exponent : ℕ → Bool
is_exponent c = c == 68 || c == 69 || c == 100 || c == 101

-- a plus or a minus
abbrev pub sign_units : List ℕ → ℕ
sign_units [] = 0
sign_units (c ∷ units) = if c == 43 || c == 45 then 1 else 0

-- so many units and the digits behind them, where there are digits
abbrev pub with_digits : (units digits : ℕ) → ℕ
with_digits units digits = if nat_lt 0 digits then units + digits else 0

-- E or D, perhaps a sign, and digits
unfoldable pub exponent_units : List ℕ → ℕ
exponent_units [] = 0
exponent_units (c ∷ units) =
    if is_exponent c then with_digits (1 + sign_units units) (run is_digit (drop (sign_units units) units)) else 0

-- ten-thousandths of a number with at most four digits behind the point
abbrev pub ten_thousandths : (whole fraction : List ℕ) → ℕ
ten_thousandths whole fraction = value_from 10 0 whole * 10000 + value_from 10 0 fraction * 10 ^ (4 - length fraction)

abbrev pub currency : (ten_thousandths : ℕ) → Option Literal6
currency n = if nat_le n 9223372036854775807 then Some (literal.Cur (pos n)) else None

-- a whole number without a suffix, of this value and number of digits
unfoldable pub plain_whole : (value digits : ℕ) → Literal6
plain_whole n digits =
    if nat_le n 32767 then literal.Int (pos n) false
    else if nat_le n 2147483647 then literal.Long (pos n) false
    else if nat_le digits 10 then literal.Plain (pos (n * 10000))
    else literal.Floating

unfoldable pub whole_value : List ℕ → Suffix → Option Literal6
whole_value digits suffix.Absent = Some (plain_whole (value_from 10 0 digits) (length digits))
whole_value digits suffix.Integer = if nat_le (value_from 10 0 digits) 32767 then Some (literal.Int (pos (value_from 10 0 digits)) false) else None
whole_value digits suffix.Long = if nat_le (value_from 10 0 digits) 2147483647 then Some (literal.Long (pos (value_from 10 0 digits)) false) else None
whole_value digits suffix.Currency = currency (ten_thousandths digits [])
whole_value digits suffix.Str = None
whole_value digits suffix.Single = Some literal.Floating
whole_value digits suffix.Double = Some literal.Floating

unfoldable pub pointed_value : (whole fraction : List ℕ) → Suffix → Option Literal6
pointed_value whole fraction suffix.Absent =
    if nat_le (length whole) 10 && nat_le (length fraction) 4
    then Some (literal.Plain (pos (ten_thousandths whole fraction)))
    else Some literal.Floating
pointed_value whole fraction suffix.Currency =
    if nat_le (length fraction) 4 then currency (ten_thousandths whole fraction) else Some literal.Floating
pointed_value whole fraction suffix.Integer = None
pointed_value whole fraction suffix.Long = None
pointed_value whole fraction suffix.Str = None
pointed_value whole fraction suffix.Single = Some literal.Floating
pointed_value whole fraction suffix.Double = Some literal.Floating

abbrev pub exponent_value : Suffix → Option Literal6
exponent_value suffix.Integer = None
exponent_value suffix.Long = None
exponent_value suffix.Str = None
exponent_value suffix.Absent = Some literal.Floating
exponent_value suffix.Currency = Some literal.Floating
exponent_value suffix.Single = Some literal.Floating
exponent_value suffix.Double = Some literal.Floating

-- the digits, the point with the digits behind it, the number of units of the exponent, and the suffix
unfoldable pub decimal_value : (whole point : List ℕ) → (exponent : ℕ) → Suffix → Option Literal6
decimal_value whole point exponent s =
    if nat_lt 0 exponent then exponent_value s
    else if nat_lt 0 (length point) then pointed_value whole (drop 1 point) s
    else whole_value whole s

-- a literal of so many units; none where the number can't be held
abbrev pub literal_of : Option Literal6 → ℕ → Option (TokenKind × ℕ)
literal_of value units = option_map (λ l. (kind.Lit l, units)) value

unfoldable pub decimal_at : List ℕ → Option (TokenKind × ℕ)
decimal_at units =
    let whole = run is_digit units in
    let point = fraction_units (drop whole units) in
    let exponent = exponent_units (drop (whole + point) units) in
    let s = number_suffix (drop (whole + point + exponent) units) in
    literal_of
    (decimal_value (take whole units) (take point (drop whole units)) exponent s)
    (whole + point + exponent + suffix_units s)

-- Hexadecimal and octal numbers

-- the base that the letter behind the `&` names; 0 where it names none
abbrev pub base_of : ℕ → ℕ
base_of c = if c == 72 || c == 104 then 16 else if c == 79 || c == 111 then 8 else 0

-- the number with this bit pattern of so many bits
abbrev pub bit_pattern : (bits n : ℕ) → ℤ
bit_pattern bits n = if nat_lt n (2 ^ (bits - 1)) then pos n else pos n -ℤ pos (2 ^ bits)

unfoldable pub radix_value : ℕ → Suffix → Option Literal6
radix_value n suffix.Absent =
    if nat_le n 65535 then Some (literal.Int (bit_pattern 16 n) true)
    else if nat_le n 4294967295 then Some (literal.Long (bit_pattern 32 n) true)
    else None
radix_value n suffix.Integer = if nat_le n 65535 then Some (literal.Int (bit_pattern 16 n) true) else None
radix_value n suffix.Long = if nat_le n 4294967295 then Some (literal.Long (bit_pattern 32 n) true) else None
radix_value n _ = None

-- how many digits stand behind an `&` and the letter of their base
abbrev pub radix_digits : List ℕ → ℕ
radix_digits [] = 0
radix_digits (c ∷ units) = run (is_digit_of (base_of c)) units

-- from behind the `&` and the letter of the base
unfoldable pub radix_behind : ℕ → List ℕ → Option (TokenKind × ℕ)
radix_behind c units =
    let n = run (is_digit_of (base_of c)) units in
    let s = radix_suffix (drop n units) in
    literal_of (radix_value (value_from (base_of c) 0 (take n units)) s) (2 + n + suffix_units s)

-- from behind the `&`
abbrev pub radix_at : List ℕ → Option (TokenKind × ℕ)
radix_at [] = None
radix_at (c ∷ units) = radix_behind c units

-- Texts

-- a text with one more unit, written in so many
abbrev pub longer : (unit units : ℕ) → Option (List ℕ × ℕ) → Option (List ℕ × ℕ)
longer c n found = option_map (λ x. (c ∷ x.0, n + x.1)) found

-- From behind the opening quote: the text, and how many units it takes with its closing quote. A doubled quote is a quote
-- of the text, and a quote that isn't doubled closes it. It is closed on its physical line.
abbrev mutual
  pub text_from : List ℕ → Option (List ℕ × ℕ)
  text_from [] = None
  text_from (c ∷ cs) = elim (c == 34) [
    | true ↦ behind_quote cs
    | false ↦ elim (is_line_end c) [ true ↦ None | false ↦ longer c 1 (text_from cs) ]
  ]

  pub behind_quote : List ℕ → Option (List ℕ × ℕ)
  behind_quote [] = Some ([], 1)
  behind_quote (c ∷ cs) = elim (c == 34) [ true ↦ longer 34 2 (text_from cs) | false ↦ Some ([], 1) ]

unfoldable pub text_at : List ℕ → Option (TokenKind × ℕ)
text_at units = option_map (λ x. (kind.Lit (literal.Str x.0), 1 + x.1)) (text_from units)

-- Dates

abbrev pub is_a_or_p : ℕ → Bool
is_a_or_p c = c == 65 || c == 97 || c == 80 || c == 112

abbrev pub is_m : ℕ → Bool
is_m c = c == 77 || c == 109

-- digits, blanks, `/`, `-`, `:` and the letters of AM and PM
abbrev pub is_date_unit : ℕ → Bool
is_date_unit c = is_digit c || is_blank c || c == 47 || c == 45 || c == 58 || is_a_or_p c || is_m c

abbrev pub same : Bool → Bool → Bool
same true b = b
same false b = not b

-- M stands exactly behind A or P; the first argument says whether one of these stands before the units
abbrev pub is_paired : Bool → List ℕ → Bool
is_paired before [] = true
is_paired before (c ∷ cs) = same before (is_m c) && is_paired (is_a_or_p c) cs

-- from behind the opening `#`: how many units stand before the next `#` of a date
abbrev pub date_units : List ℕ → ℕ
date_units units = run is_date_unit units

unfoldable pub is_date : List ℕ → Bool
is_date units =
    begins (λ c. c == 35) (drop (run is_date_unit units) units) && is_paired false (take (run is_date_unit units + 1) units)

-- Signs

-- the sign of two units
abbrev pub double_sign : ℕ → ℕ → Option Sign
double_sign c d =
    if c == 60 && d == 61 then Some sign.LessEqual
    else if c == 62 && d == 61 then Some sign.GreaterEqual
    else if c == 60 && d == 62 then Some sign.NotEqual
    else if c == 58 && d == 61 then Some sign.ColonEqual
    else None

-- the sign of one unit
abbrev pub single_sign : ℕ → Option Sign
single_sign c =
    if c == 40 then Some sign.OpenParen
    else if c == 41 then Some sign.CloseParen
    else if c == 44 then Some sign.Comma
    else if c == 59 then Some sign.Semicolon
    else if c == 58 then Some sign.Colon
    else if c == 46 then Some sign.Dot
    else if c == 33 then Some sign.Bang
    else if c == 61 then Some sign.Equal
    else if c == 60 then Some sign.Less
    else if c == 62 then Some sign.Greater
    else if c == 43 then Some sign.Plus
    else if c == 45 then Some sign.Minus
    else if c == 42 then Some sign.Star
    else if c == 47 then Some sign.Slash
    else if c == 92 then Some sign.Backslash
    else if c == 94 then Some sign.Caret
    else if c == 38 then Some sign.Ampersand
    else if c == 35 then Some sign.Hash
    else None

-- a sign of so many units, or what else stands there
abbrev pub sign_or : Option Sign → ℕ → Option (TokenKind × ℕ) → Option (TokenKind × ℕ)
sign_or (Some s) units other = Some (kind.Sign s, units)
sign_or None units other = other

unfoldable pub sign_at : List ℕ → Option (TokenKind × ℕ)
sign_at [] = None
sign_at (c ∷ []) = sign_or (single_sign c) 1 None
sign_at (c ∷ d ∷ units) = sign_or (double_sign c d) 2 (sign_or (single_sign c) 1 None)

-- The token at the front, with its number of units: the longest one. None where no token begins there, where a text isn't
-- closed, where a number can't be held and where a name is too long.
unfoldable pub token_at : List ℕ → Option (TokenKind × ℕ)
token_at [] = None
token_at (c ∷ units) =
    if is_letter c then word_at (c ∷ units)
    else if is_digit c || (c == 46 && begins is_digit units) then decimal_at (c ∷ units)
    else if c == 34 then text_at units
    else if c == 91 then bracketed_at units
    else if c == 38 && nat_lt 0 (radix_digits units) then radix_at units
    else if c == 35 && is_date units then Some (kind.Lit literal.Date, date_units units + 2)
    else sign_at (c ∷ units)
