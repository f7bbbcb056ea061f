-- How many units the longest token at the front has, whether or not its value can be held.
use Rattle.std.proofs.Common.{◌≡◌, ℕ, ◌+◌, ◌≤◌, ◌==◌, ◌&&◌, ◌||◌, Bool, if◌then◌else◌, nat_lt, Option, Some, None, option_map, List, [], ◌∷◌, drop}
use Rattle.vb_tree.specs.Tokens.{is_letter, is_digit, is_digit_of, is_name_unit, run, begins, suffix_units, name_suffix, number_suffix, radix_suffix, fraction_units, exponent_units, base_of, radix_digits, text_from, is_date, date_units, sign_at}

abbrev pub word_read : List ℕ → ℕ
word_read units = run is_name_unit units + suffix_units (name_suffix (drop (run is_name_unit units) units))

abbrev pub suffix_read : List ℕ → ℕ
suffix_read units = suffix_units (number_suffix units)

abbrev pub exponent_read : List ℕ → ℕ
exponent_read units = exponent_units units + suffix_read (drop (exponent_units units) units)

abbrev pub fraction_read : List ℕ → ℕ
fraction_read units = fraction_units units + exponent_read (drop (fraction_units units) units)

abbrev pub decimal_read : List ℕ → ℕ
decimal_read units = run is_digit units + fraction_read (drop (run is_digit units) units)

abbrev pub bracketed_read : List ℕ → ℕ
bracketed_read units = run is_name_unit units + 2 + suffix_units (name_suffix (drop (run is_name_unit units + 1) units))

abbrev pub is_bracketed : List ℕ → Bool
is_bracketed units = begins is_letter units && begins (λ c. c == 93) (drop (run is_name_unit units) units)

abbrev pub radix_read : List ℕ → ℕ
radix_read [] = 0
radix_read (c ∷ units) = 2 + run (is_digit_of (base_of c)) units + suffix_units (radix_suffix (drop (run (is_digit_of (base_of c)) units) units))

-- none where no token of any class stands there
unfoldable pub length_at : List ℕ → Option ℕ
length_at [] = None
length_at (c ∷ units) =
    if is_letter c then Some (word_read (c ∷ units))
    else if is_digit c || (c == 46 && begins is_digit units) then Some (decimal_read (c ∷ units))
    else if c == 34 then option_map (λ x. 1 + x.1) (text_from units)
    else if c == 91 then (if is_bracketed units then Some (bracketed_read units) else None)
    else if c == 38 && nat_lt 0 (radix_digits units) then Some (radix_read units)
    else if c == 35 && is_date units then Some (date_units units + 2)
    else option_map (λ x. x.1) (sign_at (c ∷ units))

-- what is read at the front has so many units at least
pub record Reaches (units : List ℕ) (n : ℕ) : Type 0 where
  pub read : ℕ
  pub there : length_at units ≡ Some read
  pub far : n ≤ read
