-- The texts of numbers and of other values, in UTF-16 units.
use Rattle.std.specs.Prelude.{ℕ, zero, suc, ◌+◌, ◌/◌, ◌%◌, ◌^◌, ◌==◌, Bool, true, false, cond, ℤ, pos, negsuc, unsigned_abs, List, [], ◌∷◌, ◌++◌}
use Rattle.std.specs.Fmt.{decimal, signed_decimal}
use Rattle.vb_tree.specs.declared.value.Value6.{Value6}
use Rattle.vb_tree.specs.declared.value.Value6.TheVariants as v
use Rattle.vb6_meaning.specs.Answers.{Answer, gives, outside}

-- a minus before a negative number
abbrev pub sign_text : ℤ → List ℕ
sign_text (pos n) = []
sign_text (negsuc n) = 45 ∷ []

-- the digits of r / 10 ^ places, from the highest place on, until nothing is left
abbrev pub places_text : (places r : ℕ) → List ℕ
places_text zero r = []
places_text (suc places) r = cond (r == 0) [] ((48 + r / 10 ^ places) ∷ places_text places (r % 10 ^ places))

-- what stands after the whole part of n ten-thousandths: a full stop and digits, where they aren't zeros alone
abbrev pub fraction_text : ℕ → List ℕ
fraction_text n = cond (n % 10000 == 0) [] (46 ∷ places_text 4 (n % 10000))

-- the text of a number of ten-thousandths
abbrev pub currency_text : ℤ → List ℕ
currency_text z = sign_text z ++ decimal (unsigned_abs z / 10000) ++ fraction_text (unsigned_abs z)

abbrev pub boolean_text : Bool → List ℕ
boolean_text true = 84 ∷ 114 ∷ 117 ∷ 101 ∷ []
boolean_text false = 70 ∷ 97 ∷ 108 ∷ 115 ∷ 101 ∷ []

-- the text of a value, as `CStr` gives it; an object has none
abbrev pub text_of : Value6 → Answer (List ℕ)
text_of (v.Boolean b) = gives (boolean_text b)
text_of (v.Byte n) = gives (signed_decimal (pos n))
text_of (v.Int z) = gives (signed_decimal z)
text_of (v.Long z) = gives (signed_decimal z)
text_of (v.Cur z) = gives (currency_text z)
text_of (v.Str units) = gives units
text_of v.Nothing = outside
text_of (v.Object number) = outside
text_of v.Empty = gives []

-- a printed number has a blank or its minus in front, and a blank behind
abbrev pub blank_before : ℤ → List ℕ
blank_before (pos n) = 32 ∷ []
blank_before (negsuc n) = []

abbrev pub printed_number : ℤ → List ℕ → List ℕ
printed_number z text = blank_before z ++ text ++ 32 ∷ []

-- the text that `Debug.Print` puts out for one item
abbrev pub print_text : Value6 → Answer (List ℕ)
print_text (v.Boolean b) = gives (boolean_text b)
print_text (v.Byte n) = gives (printed_number (pos n) (signed_decimal (pos n)))
print_text (v.Int z) = gives (printed_number z (signed_decimal z))
print_text (v.Long z) = gives (printed_number z (signed_decimal z))
print_text (v.Cur z) = gives (printed_number z (currency_text z))
print_text (v.Str units) = gives units
print_text v.Nothing = outside
print_text (v.Object number) = outside
print_text v.Empty = gives []
