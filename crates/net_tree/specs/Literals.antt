-- How literals are written, and which can be.
use Rattle.std.specs.Prelude.{ℕ, suc, ◌+◌, ◌-◌, ◌/◌, ◌%◌, ◌^◌, ℤ, pos, negsuc, Bool, true, false, ◌||◌, ◌==◌, if◌then◌else◌, List, [], ◌∷◌, ◌++◌, map, codes}
use Rattle.std.specs.List.{flat_map, list_all}
use Rattle.std.specs.Fmt.{decimal, digit_glyph}
use Rattle.std.specs.Char.{encode_utf8}
use Rattle.std.specs.Int.Digits.{digits_of}
use Rattle.up_base.specs.Names.{is_printable}
use Rattle.net_tree.specs.Tree as tree
use Rattle.net_tree.specs.Tree.{Literal, boolean, short, integer, long, str}

-- a whole number in decimal digits
abbrev pub number_text : ℤ → List ℕ
number_text (pos n) = decimal n
number_text (negsuc n) = codes "-" ++ decimal (suc n)

-- the digits in base 16, letters as capitals, without zeros in front
abbrev pub hexadecimal : ℕ → List ℕ
hexadecimal n = if n == 0 then codes "0" else map (digit_glyph true) (digits_of 16 n)

-- the number whose bits in so many places are those of a number with a sign
abbrev pub bit_pattern : (places : ℕ) → ℤ → ℕ
bit_pattern places (pos n) = n
bit_pattern places (negsuc n) = 2 ^ places - suc n

-- a number of so many bits, in decimal digits or as its bit pattern
abbrev pub whole_text : (places : ℕ) → (hexadecimal : Bool) → ℤ → List ℕ
whole_text places true z = codes "&H" ++ hexadecimal (bit_pattern places z)
whole_text places false z = number_text z

-- the four decimal places of a number of ten-thousandths, without zeros at the end
abbrev pub places_text : ℕ → List ℕ
places_text r =
    let a = 48 + r / 1000 in
    let b = 48 + r / 100 % 10 in
    let c = 48 + r / 10 % 10 in
    let d = 48 + r % 10 in
    if r % 10 == 0 then (if r % 100 == 0 then (if r % 1000 == 0 then a ∷ [] else a ∷ b ∷ []) else a ∷ b ∷ c ∷ []) else a ∷ b ∷ c ∷ d ∷ []

-- what stands behind the whole part
abbrev pub fraction_text : ℕ → List ℕ
fraction_text r = if r == 0 then [] else codes "." ++ places_text r

-- a number of ten-thousandths
abbrev pub amount_text : ℕ → List ℕ
amount_text n = decimal (n / 10000) ++ fraction_text (n % 10000)

abbrev pub signed_amount_text : ℤ → List ℕ
signed_amount_text (pos n) = amount_text n
signed_amount_text (negsuc n) = codes "-" ++ amount_text (suc n)

-- a quote is doubled inside a literal, and each other unit is a character
abbrev pub quoted_unit : ℕ → List ℕ
quoted_unit u = if u == 34 then codes "\"\"" else encode_utf8 u

abbrev pub quoted : List ℕ → List ℕ
quoted units = codes "\"" ++ flat_map quoted_unit units ++ codes "\""

abbrev pub boolean_text : Bool → List ℕ
boolean_text true = codes "True"
boolean_text false = codes "False"

-- what stands behind an Integer: nothing behind its decimal digits
abbrev pub integer_suffix : (hexadecimal : Bool) → List ℕ
integer_suffix true = codes "I"
integer_suffix false = []

abbrev pub literal_text : Literal → List ℕ
literal_text (boolean b) = boolean_text b
literal_text (short z hexadecimal) = whole_text 16 hexadecimal z ++ codes "S"
literal_text (integer z hexadecimal) = whole_text 32 hexadecimal z ++ integer_suffix hexadecimal
literal_text (long z) = number_text z ++ codes "L"
literal_text (tree.decimal z) = signed_amount_text z ++ codes "D"
literal_text (str units) = quoted units

-- a number that is not negative
abbrev pub is_natural : ℤ → Bool
is_natural (pos n) = true
is_natural (negsuc n) = false

-- A negative number is spelt in hexadecimal alone, and no text has a unit outside of 32 to 126.
abbrev pub is_writable_literal : Literal → Bool
is_writable_literal (boolean b) = true
is_writable_literal (short z hexadecimal) = hexadecimal || is_natural z
is_writable_literal (integer z hexadecimal) = hexadecimal || is_natural z
is_writable_literal (long z) = is_natural z
is_writable_literal (tree.decimal z) = is_natural z
is_writable_literal (str units) = list_all is_printable units
