-- Points as numbers: those of one kind have the same remainder by 5, and all Option and Def lines have one number in common.
use Rattle.std.specs.Prelude.{ℕ, ◌+◌, ◌*◌}
use Rattle.bound_facts.specs.Clean.{Arrow, Point, procedure, variable, constant, user_type, option_line}

abbrev pub number : Point → ℕ
number (procedure p) = 5 * p
number (variable v) = 5 * v + 1
number (constant c) = 5 * c + 2
number (user_type t) = 5 * t + 3
number (option_line file statement) = 4

abbrev pub number_arrow : Arrow → ℕ × ℕ
number_arrow a = (number a.0, number a.1)
