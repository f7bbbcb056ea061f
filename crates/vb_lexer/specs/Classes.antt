-- What the classes of units mean, by their names in the code.
use Rattle.std.specs.Prelude.{ℕ, Bool}
use Rattle.vb_lexer.specs.declared.units.UnitClass.{UnitClass}
use Rattle.vb_lexer.specs.declared.units.UnitClass.TheVariants.{Digit, Octal, Hex, NameUnit, DateUnit, Other}
use Rattle.vb_tree.specs.Tokens.{is_digit_of, is_name_unit, is_date_unit}

abbrev pub fits : UnitClass → ℕ → Bool
fits Digit c = is_digit_of 10 c
fits Octal c = is_digit_of 8 c
fits Hex c = is_digit_of 16 c
fits NameUnit c = is_name_unit c
fits DateUnit c = is_date_unit c
fits Other c = is_digit_of 0 c
