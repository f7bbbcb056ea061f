-- How literals are read.
use Rattle.std.specs.Prelude.{ℕ, suc, ◌+◌, ◌-◌, ◌*◌, ◌/◌, ℤ, pos, negsuc, Bool, true, false, ◌&&◌, nat_lt, ◌==◌, if◌then◌else◌, List, [], ◌∷◌, codes, Option, Some, None}
use Rattle.net_tree.specs.Tree.{Literal, decimal, integer, long, short, str}
use Rattle.net_exprs.specs.Readers.{after, past}
use Rattle.net_exprs.specs.Names.{is_digit, begins_digit, numeral_from}

abbrev pub with_unit : ℕ → Option (List ℕ × List ℕ) → Option (List ℕ × List ℕ)
with_unit u None = None
with_unit u (Some parts) = Some (u ∷ parts.0, parts.1)

-- the units of a text up to the quote that ends it; whether a quote stands before that may end it or be doubled
abbrev pub units_at : List ℕ → (after_quote : Bool) → Option (List ℕ × List ℕ)
units_at [] false = None
units_at [] true = Some ([], [])
units_at (c ∷ s) false = elim (c == 34) [ true ↦ units_at s true | false ↦ with_unit c (units_at s false) ]
units_at (c ∷ s) true = elim (c == 34) [ true ↦ with_unit 34 (units_at s false) | false ↦ Some ([], c ∷ s) ]

abbrev pub text_literal : Option (List ℕ × List ℕ) → Option (Literal × List ℕ)
text_literal None = None
text_literal (Some parts) = Some (str parts.0, parts.1)

-- the number with a sign that bits stand for, of which the highest is so much
abbrev pub signed_number : (highest : ℕ) → ℕ → ℤ
signed_number highest n = if nat_lt n highest then pos n else negsuc (2 * highest - suc n)

-- a number whose bits fit a type, of which the highest is so much
abbrev pub bits_literal : (highest : ℕ) → (ℤ → Literal) → ℕ → List ℕ → Option (Literal × List ℕ)
bits_literal highest make n rest = if nat_lt n (2 * highest) then Some (make (signed_number highest n), rest) else None

abbrev pub hexadecimal_short : ℤ → Literal
hexadecimal_short z = short z true

abbrev pub hexadecimal_integer : ℤ → Literal
hexadecimal_integer z = integer z true

-- what follows hexadecimal digits
abbrev pub hexadecimal_literal : ℕ → List ℕ → Option (Literal × List ℕ)
hexadecimal_literal n [] = None
hexadecimal_literal n (c ∷ s) =
    if c == 83 then bits_literal 0x8000 hexadecimal_short n s else (if c == 73 then bits_literal 0x8000_0000 hexadecimal_integer n s else None)

-- the decimal places at the front, of which the first counts so much, and the rest
abbrev pub places_from : (weight : ℕ) → ℕ → List ℕ → ℕ × List ℕ
places_from weight n [] = (n, [])
places_from weight n (c ∷ s) = if is_digit c then places_from (weight / 10) (n + (c - 48) * weight) s else (n, c ∷ s)

-- a number with decimal places
abbrev pub fraction_literal : ℕ → ℕ × List ℕ → Option (Literal × List ℕ)
fraction_literal n places = past (after (codes "D") places.1) (λ s. Some (decimal (pos (n * 10000 + places.0)), s))

-- what follows the digits of a whole number
abbrev pub decimal_literal : ℕ → List ℕ → Option (Literal × List ℕ)
decimal_literal n [] = Some (integer (pos n) false, [])
decimal_literal n (c ∷ s) =
    if c == 83 then Some (short (pos n) false, s)
    else (if c == 76 then Some (long (pos n), s)
    else (if c == 68 then Some (decimal (pos (n * 10000)), s)
    else (if c == 46 && begins_digit s then fraction_literal n (places_from 1000 0 s) else Some (integer (pos n) false, c ∷ s))))

-- a text, a number in hexadecimal digits or one in decimal digits
abbrev pub literal_at : List ℕ → Option (Literal × List ℕ)
literal_at [] = None
literal_at (c ∷ s) =
    if is_digit c then decimal_literal (numeral_from 10 0 (c ∷ s)).0 (numeral_from 10 0 (c ∷ s)).1
    else (if c == 34 then text_literal (units_at s false)
    else (if c == 38 then past (after (codes "H") s) (λ digits. hexadecimal_literal (numeral_from 16 0 digits).0 (numeral_from 16 0 digits).1) else None))
