-- The calls of the .NET library that are written, those of values. Text arguments may be Nothing, which is the empty text; counts
-- are Integers. Error 5 is an invalid call. (Microsoft.VisualBasic.Strings, System.Math.Abs.)
use Rattle.std.specs.Prelude.{ℕ, ◌-◌, ◌==◌, nat_le, if◌then◌else◌, ℤ, pos, negsuc, unsigned_abs, List, [], ◌∷◌, length, take, drop, replicate, map}
use Rattle.std.specs.List.{list_all}
use Rattle.vb6_meaning.specs.Answers.{Answer, gives, raises, outside}
use Rattle.vb6_meaning.specs.Library.{without_blanks, without_last_blanks, capital, small, place_in}
use Rattle.net_meaning.specs.declared.value.ValueN.{ValueN}
use Rattle.net_meaning.specs.declared.value.ValueN.TheVariants as n
use Rattle.net_meaning.specs.declared.whole.WholeKind.TheVariants.{Short, Integer, Long}
use Rattle.net_meaning.specs.Whole.{whole}
use Rattle.net_meaning.specs.Decimals.{decimal}

-- the text that a value of type String is
abbrev pub on_text : (List ℕ → Answer ValueN) → ValueN → Answer ValueN
on_text row (n.Str s) = row s
on_text row n.Nothing = row []
on_text row _ = outside

abbrev pub on_integer : (ℤ → Answer ValueN) → ValueN → Answer ValueN
on_integer row (n.Integer z) = row z
on_integer row _ = outside

-- a count of units, which isn't negative
abbrev pub counted : ℤ → (ℕ → Answer ValueN) → Answer ValueN
counted (pos k) row = row k
counted (negsuc k) row = raises 5

abbrev pub len : ValueN → Answer ValueN
len x = on_text (λ s. whole Integer (pos (length s))) x

abbrev pub left : ValueN → ValueN → Answer ValueN
left x count = on_text (λ s. on_integer (λ z. counted z (λ k. gives (n.Str (take k s)))) count) x

abbrev pub right : ValueN → ValueN → Answer ValueN
right x count = on_text (λ s. on_integer (λ z. counted z (λ k. gives (n.Str (drop (length s - k) s)))) count) x

-- the units from a place that counts from 1
abbrev pub from_place : (List ℕ → Answer ValueN) → ValueN → ValueN → Answer ValueN
from_place row x place =
    on_text (λ s. on_integer (λ z. counted z (λ k. if k == 0 then raises 5 else row (drop (k - 1) s))) place) x

-- `Mid` with two arguments and with three
abbrev pub mid_on : ValueN → ValueN → Answer ValueN
mid_on x place = from_place (λ s. gives (n.Str s)) x place

abbrev pub mid : ValueN → ValueN → ValueN → Answer ValueN
mid x place count = from_place (λ s. on_integer (λ z. counted z (λ k. gives (n.Str (take k s)))) count) x place

abbrev pub trim : ValueN → Answer ValueN
trim x = on_text (λ s. gives (n.Str (without_last_blanks (without_blanks s)))) x

abbrev pub left_trim : ValueN → Answer ValueN
left_trim x = on_text (λ s. gives (n.Str (without_blanks s))) x

abbrev pub right_trim : ValueN → Answer ValueN
right_trim x = on_text (λ s. gives (n.Str (without_last_blanks s))) x

-- units past 127 have no row
abbrev pub upper : ValueN → Answer ValueN
upper x = on_text (λ s. if list_all (λ c. nat_le c 127) s then gives (n.Str (map capital s)) else outside) x

abbrev pub lower : ValueN → Answer ValueN
lower x = on_text (λ s. if list_all (λ c. nat_le c 127) s then gives (n.Str (map small s)) else outside) x

abbrev pub space : ValueN → Answer ValueN
space count = on_integer (λ z. counted z (λ k. gives (n.Str (replicate k 32)))) count

-- `Chr`, as a text; the units of 128 to 255 have no row
abbrev pub character : ValueN → Answer ValueN
character number =
    on_integer (λ z. counted z (λ k. if nat_le k 127 then gives (n.Str (k ∷ [])) else (if nat_le k 255 then outside else raises 5))) number

-- `ChrW`: the text of one unit
abbrev pub unit_text : ValueN → Answer ValueN
unit_text number = on_integer (λ z. counted z (λ k. if nat_le k 65535 then gives (n.Str (k ∷ [])) else raises 5)) number

abbrev pub first_number : List ℕ → Answer ValueN
first_number [] = raises 5
first_number (c ∷ s) = if nat_le c 127 then gives (n.Integer (pos c)) else outside

-- `Asc`
abbrev pub character_number : ValueN → Answer ValueN
character_number x = on_text first_number x

-- `InStr`: the first place from 1; 0 where there is none, and 1 for the empty text in one that isn't
abbrev pub place : ValueN → ValueN → Answer ValueN
place x y = on_text (λ s. on_text (λ t. whole Integer (pos (place_in 1 s t))) y) x

-- `System.Math.Abs`
abbrev pub absolute : ValueN → Answer ValueN
absolute (n.Short z) = whole Short (pos (unsigned_abs z))
absolute (n.Integer z) = whole Integer (pos (unsigned_abs z))
absolute (n.Long z) = whole Long (pos (unsigned_abs z))
absolute (n.Decimal m s) = decimal (pos (unsigned_abs m)) s
absolute _ = outside
