-- A point that is no Option or Def line is told by its number.
use Rattle.std.proofs.Common.{◌≡◌, ℕ, ◌+◌, ◌*◌, Bool, true, false, ap, arith}
use Rattle.bound_facts.specs.Clean.{Point, procedure, variable, constant, user_type, option_line}
use Rattle.clean_procedures.specs.Numbers.{number}

abbrev pub is_numbered : Point → Bool
is_numbered (option_line file statement) = false
is_numbered _ = true

same_five : (a b : ℕ) → 5 * a ≡ 5 * b → a ≡ b
same_five a b e = omega (arith, e)

same_more : (a b k : ℕ) → 5 * a + k ≡ 5 * b + k → a ≡ b
same_more a b k e = omega (arith, e)

pub same_point : (a b : Point) → is_numbered b ≡ true → number a ≡ number b → a ≡ b
same_point (procedure p) (procedure q) h e = ap procedure (same_five p q e)
same_point (variable p) (procedure q) h e = absurd (omega (arith, e))
same_point (constant p) (procedure q) h e = absurd (omega (arith, e))
same_point (user_type p) (procedure q) h e = absurd (omega (arith, e))
same_point (option_line f s) (procedure q) h e = absurd (omega (arith, e))
same_point (procedure p) (variable q) h e = absurd (omega (arith, e))
same_point (variable p) (variable q) h e = ap variable (same_more p q 1 e)
same_point (constant p) (variable q) h e = absurd (omega (arith, e))
same_point (user_type p) (variable q) h e = absurd (omega (arith, e))
same_point (option_line f s) (variable q) h e = absurd (omega (arith, e))
same_point (procedure p) (constant q) h e = absurd (omega (arith, e))
same_point (variable p) (constant q) h e = absurd (omega (arith, e))
same_point (constant p) (constant q) h e = ap constant (same_more p q 2 e)
same_point (user_type p) (constant q) h e = absurd (omega (arith, e))
same_point (option_line f s) (constant q) h e = absurd (omega (arith, e))
same_point (procedure p) (user_type q) h e = absurd (omega (arith, e))
same_point (variable p) (user_type q) h e = absurd (omega (arith, e))
same_point (constant p) (user_type q) h e = absurd (omega (arith, e))
same_point (user_type p) (user_type q) h e = ap user_type (same_more p q 3 e)
same_point (option_line f s) (user_type q) h e = absurd (omega (arith, e))
same_point a (option_line f s) h e = absurd (cc h)
