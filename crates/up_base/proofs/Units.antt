-- The table of units from 80 to 9F hex.
use Rattle.std.proofs.Common.{◌≡◌, ℕ, ◌+◌, ◌-◌, ◌<◌, ◌≤◌, true, Option, Some, None, map, get_or, refl, sym, ap, ◌∙◌, arith, eqb-true}
use Rattle.std.proofs.lemmas.List.FromFn.{get_or-map-range_with_len}
use Rattle.std.proofs.lemmas.List.Quantifiers.{position-Some}
use Rattle.std.specs.List.{position, range_with_len}
use Rattle.up_base.specs.Windows1252.{is_unit, unit_of}
use Rattle.up_base.specs.declared.windows_1252.TheConstants.{UNITS}

-- the table has the unit of each byte from 80 to 9F hex
units_are : UNITS ≡ map unit_of (range_with_len 128 32)
units_are = refl

pub unit_at : (byte : ℕ) (d : Option ℕ) → 128 ≤ byte → byte ≤ 159 → get_or UNITS (byte - 128) d ≡ unit_of byte
unit_at byte d low high =
    ap (λ units. get_or units (byte - 128) d) units_are
    ∙ get_or-map-range_with_len unit_of 128 32 (byte - 128) byte d (omega arith) (omega arith)

is_unit_is : (unit : ℕ) (found : Option ℕ) → is_unit unit found ≡ true → found ≡ Some unit
is_unit_is unit None h = absurd (cc h)
is_unit_is unit (Some n) h = ap (λ k. Some k) (eqb-true n unit h)

pub place_stands : (unit place : ℕ) → position (λ u. is_unit unit u) UNITS ≡ Some place → unit_of (128 + place) ≡ Some unit
place_stands unit place h =
    let at = position-Some (λ u. is_unit unit u) UNITS place None h in
    let below : place < 32 = at.0 in
    let in_table : get_or UNITS place None ≡ unit_of (128 + place) =
    ap (λ units. get_or units place None) units_are ∙ get_or-map-range_with_len unit_of 128 32 place (128 + place) None below refl in
    sym in_table ∙ is_unit_is unit (get_or UNITS place None) at.1
