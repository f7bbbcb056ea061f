-- Windows-1252: the UTF-16 unit that each byte stands for.
use Rattle.std.specs.Prelude.{◌≡◌, ℕ, Bool, false, cond, ◌&&◌, ◌||◌, nat_le, nat_lt, nat_eq, List, [], ◌∷◌, map, position, Option, Some, None, is_none}
use Rattle.std.specs.Map.{lookup}
use Rattle.up_base.specs.declared.windows_1252.DecodeFail.{DecodeFail}
use Rattle.up_base.specs.declared.windows_1252.DecodeFail.TheVariants.{Undefined, Mem}

-- the bytes from 80 to 9F hex that have a character, each with its unit
abbrev pub assigned : List (ℕ × ℕ)
assigned =
    (0x80, 0x20AC) ∷ (0x82, 0x201A) ∷ (0x83, 0x0192) ∷ (0x84, 0x201E) ∷ (0x85, 0x2026) ∷ (0x86, 0x2020) ∷ (0x87, 0x2021)
    ∷ (0x88, 0x02C6) ∷ (0x89, 0x2030) ∷ (0x8A, 0x0160) ∷ (0x8B, 0x2039) ∷ (0x8C, 0x0152) ∷ (0x8E, 0x017D) ∷ (0x91, 0x2018)
    ∷ (0x92, 0x2019) ∷ (0x93, 0x201C) ∷ (0x94, 0x201D) ∷ (0x95, 0x2022) ∷ (0x96, 0x2013) ∷ (0x97, 0x2014) ∷ (0x98, 0x02DC)
    ∷ (0x99, 0x2122) ∷ (0x9A, 0x0161) ∷ (0x9B, 0x203A) ∷ (0x9C, 0x0153) ∷ (0x9E, 0x017E) ∷ (0x9F, 0x0178) ∷ []

-- the unit of a byte: below 80 and above 9F hex the byte's own number
abbrev pub unit_of : ℕ → Option ℕ
unit_of byte = cond (nat_le 0x80 byte && nat_le byte 0x9F) (lookup (nat_eq byte) assigned) (Some byte)

-- whether a unit is one of those whose byte has its own number
abbrev pub is_own_number : ℕ → Bool
is_own_number unit = nat_lt unit 0x80 || (nat_le 0xA0 unit && nat_le unit 0xFF)

-- whether what is found is a unit, and this one
abbrev pub is_unit : ℕ → Option ℕ → Bool
is_unit unit None = false
is_unit unit (Some found) = nat_eq found unit

-- whether a byte has no character
abbrev pub is_undefined : ℕ → Bool
is_undefined byte = is_none (unit_of byte)

-- the units of bytes that all have a character
abbrev pub AreUnits : List ℕ → List ℕ → Type 0
AreUnits bytes units = map Some units ≡ map unit_of bytes

-- a byte has no character, and this is the place of the first one, from 0; or memory is wanting
abbrev pub IsUndecoded : List ℕ → DecodeFail → Type 0
IsUndecoded bytes (Undefined place) = position is_undefined bytes ≡ Some place
IsUndecoded bytes Mem = Unit {0}
