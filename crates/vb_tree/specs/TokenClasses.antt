-- The classes of tokens by their characters: what a token of each class is made of, how it is spelt, and what may stand
-- behind it. The token at a place is the longest of them.
use Rattle.std.specs.Prelude.{◌≡◌, ℕ, ◌+◌, ◌<◌, ◌≤◌, Bool, true, false, if◌then◌else◌, nat_le, not, ◌&&◌, ◌||◌, ◌==◌, is_some, List, [], ◌∷◌, ◌++◌, length, Option, Some, None, option_map}
use Rattle.std.specs.List.{list_all}
use Rattle.vb_tree.specs.declared.token.Literal6.TheVariants as literal
use Rattle.vb_tree.specs.declared.token.Suffix.{Suffix}
use Rattle.vb_tree.specs.declared.token.Suffix.TheVariants as suffix
use Rattle.vb_tree.specs.declared.token.TokenKind.{TokenKind}
use Rattle.vb_tree.specs.declared.token.TokenKind.TheVariants as kind
use Rattle.vb_tree.specs.Tokens.{is_letter, is_digit, is_digit_of, is_name_unit, is_line_end, is_date_unit, is_paired, is_exponent, base_of, begins, single_sign, double_sign, suffix_of, value_from, decimal_value, radix_value}

-- E or D, perhaps a sign, and digits
pub data Exponent : Type 0 where
  no_exponent : Exponent
  exponent : (letter : ℕ) → (sign : Option ℕ) → (digits : List ℕ) → Exponent

-- The parts of a token. A suffix is one unit.
pub data Shape : Type 0 where
  word : (name : List ℕ) → (unit : Option ℕ) → Shape
  bracketed : (name : List ℕ) → (unit : Option ℕ) → Shape
  decimal : (whole : List ℕ) → (fraction : Option (List ℕ)) → Exponent → (unit : Option ℕ) → Shape
  radix : (letter : ℕ) → (digits : List ℕ) → (unit : Option ℕ) → Shape
  text : (units : List ℕ) → Shape
  date : (units : List ℕ) → Shape
  sign_of_one : (unit : ℕ) → Shape
  sign_of_two : (first second : ℕ) → Shape

abbrev pub unit_spelling : Option ℕ → List ℕ
unit_spelling None = []
unit_spelling (Some c) = c ∷ []

abbrev pub fraction_spelling : Option (List ℕ) → List ℕ
fraction_spelling None = []
fraction_spelling (Some digits) = 46 ∷ digits

abbrev pub exponent_spelling : Exponent → List ℕ
exponent_spelling no_exponent = []
exponent_spelling (exponent letter sign digits) = letter ∷ (unit_spelling sign ++ digits)

-- a text with each quote doubled
abbrev pub doubled : List ℕ → List ℕ
doubled [] = []
doubled (c ∷ cs) = elim (c == 34) [ true ↦ 34 ∷ 34 ∷ doubled cs | false ↦ c ∷ doubled cs ]

abbrev pub spelling : Shape → List ℕ
spelling (word name unit) = name ++ unit_spelling unit
spelling (bracketed name unit) = 91 ∷ (name ++ (93 ∷ unit_spelling unit))
spelling (decimal whole fraction e unit) = whole ++ (fraction_spelling fraction ++ (exponent_spelling e ++ unit_spelling unit))
spelling (radix letter digits unit) = 38 ∷ letter ∷ (digits ++ unit_spelling unit)
spelling (text units) = 34 ∷ (doubled units ++ 34 ∷ [])
spelling (date units) = 35 ∷ (units ++ 35 ∷ [])
spelling (sign_of_one c) = c ∷ []
spelling (sign_of_two c d) = c ∷ d ∷ []

-- a letter, then letters, digits and underscores
abbrev pub is_name : List ℕ → Bool
is_name name = begins is_letter name && list_all is_name_unit name

-- `%`, `&`, `@`, `$`, `!` or `#`
abbrev pub is_suffix : ℕ → Bool
is_suffix c = c == 37 || c == 38 || c == 64 || c == 36 || c == 33 || c == 35

-- the suffix of a name; a `!` before a letter is none
abbrev pub IsNameSuffix : Option ℕ → (after : List ℕ) → Type 0
IsNameSuffix None after = Unit {0}
IsNameSuffix (Some c) after = (is_suffix c ≡ true) × ((c == 33 && begins is_letter after) ≡ false)

-- the suffix of a decimal number: `$` is none
abbrev pub IsNumberSuffix : Option ℕ → Type 0
IsNumberSuffix None = Unit {0}
IsNumberSuffix (Some c) = (is_suffix c ≡ true) × ((c == 36) ≡ false)

abbrev pub IsRadixSuffix : Option ℕ → Type 0
IsRadixSuffix None = Unit {0}
IsRadixSuffix (Some c) = (c == 37 || c == 38) ≡ true

abbrev pub AreDigits : List ℕ → Type 0
AreDigits digits = list_all is_digit digits ≡ true

abbrev pub IsFraction : Option (List ℕ) → Type 0
IsFraction None = Unit {0}
IsFraction (Some digits) = AreDigits digits

abbrev pub IsPlusOrMinus : Option ℕ → Type 0
IsPlusOrMinus None = Unit {0}
IsPlusOrMinus (Some c) = (c == 43 || c == 45) ≡ true

abbrev pub IsExponent : Exponent → Type 0
IsExponent no_exponent = Unit {0}
IsExponent (exponent letter sign digits) = (is_exponent letter ≡ true) × IsPlusOrMinus sign × AreDigits digits × (0 < length digits)

-- a digit before the point or behind it
abbrev pub HasDigit : (whole : List ℕ) → Option (List ℕ) → Type 0
HasDigit whole None = 0 < length whole
HasDigit whole (Some digits) = 0 < length whole + length digits

-- whether the parts are those of a token, before the units that follow it
abbrev pub IsShape : Shape → (after : List ℕ) → Type 0
IsShape (word name unit) after = (is_name name ≡ true) × IsNameSuffix unit after
IsShape (bracketed name unit) after = (is_name name ≡ true) × IsNameSuffix unit after
IsShape (decimal whole fraction e unit) after = AreDigits whole × IsFraction fraction × HasDigit whole fraction × IsExponent e × IsNumberSuffix unit
IsShape (radix letter digits unit) after = (list_all (is_digit_of (base_of letter)) digits ≡ true) × (0 < length digits) × IsRadixSuffix unit
IsShape (text units) after = (list_all (λ c. not (is_line_end c)) units ≡ true) × (begins (λ c. c == 34) after ≡ false)
IsShape (date units) after = (list_all is_date_unit units ≡ true) × (is_paired false (units ++ 35 ∷ []) ≡ true)
IsShape (sign_of_one c) after = is_some (single_sign c) ≡ true
IsShape (sign_of_two c d) after = is_some (double_sign c d) ≡ true

-- a token of this shape stands at the front of the units
pub record Stands (units : List ℕ) (shape : Shape) : Type 0 where
  pub after : List ℕ
  pub spelt : units ≡ spelling shape ++ after
  pub shaped : IsShape shape after

-- the suffix that a unit is
abbrev pub suffix_named : Option ℕ → Suffix
suffix_named None = suffix.Absent
suffix_named (Some c) = suffix_of c

-- a name of at most 255 units, with its suffix
abbrev pub name_kind : (List ℕ → Suffix → TokenKind) → List ℕ → Option ℕ → Option TokenKind
name_kind make name unit = if nat_le (length name) 255 then Some (make name (suffix_named unit)) else None

-- what a token of this shape is; none where its number can't be held or its name is too long
abbrev pub kind_of : Shape → Option TokenKind
kind_of (word name unit) = name_kind kind.Word name unit
kind_of (bracketed name unit) = name_kind kind.Bracketed name unit
kind_of (decimal whole fraction e unit) = option_map kind.Lit (decimal_value whole (fraction_spelling fraction) (length (exponent_spelling e)) (suffix_named unit))
kind_of (radix letter digits unit) = option_map kind.Lit (radix_value (value_from (base_of letter) 0 digits) (suffix_named unit))
kind_of (text units) = Some (kind.Lit (literal.Str units))
kind_of (date units) = Some (kind.Lit literal.Date)
kind_of (sign_of_one c) = option_map kind.Sign (single_sign c)
kind_of (sign_of_two c d) = option_map kind.Sign (double_sign c d)

-- What is read at the front is the longest token that stands there, with its number of units; none where its number can't
-- be held or its name is too long.
pub record IsLongest (units : List ℕ) (found : Option (TokenKind × ℕ)) : Type 0 where
  pub shape : Shape
  pub stands : Stands units shape
  pub longest : (other : Shape) → Stands units other → length (spelling other) ≤ length (spelling shape)
  pub value : found ≡ option_map (λ k. (k, length (spelling shape))) (kind_of shape)

-- no token of any class stands at the front
abbrev pub BeginsNone : List ℕ → Type 0
BeginsNone units = (shape : Shape) → Stands units shape → ⊥
