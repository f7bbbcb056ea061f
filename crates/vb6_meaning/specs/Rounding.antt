-- Division that rounds to the nearest whole number, from halfway to the even one.
use Rattle.std.specs.Prelude.{◌≡◌, ℕ, suc, ◌+◌, ◌*◌, ◌/◌, ◌%◌, ◌≤◌, nat_lt, if◌then◌else◌, ℤ, pos, negsuc, neg_ℤ, ◌-ℤ◌, ◌*ℤ◌, unsigned_abs}

-- n / d
abbrev pub half_even : ℕ → ℕ → ℕ
half_even n d = let quotient = n / d in let twice = 2 * (n % d) in
    if nat_lt twice d then quotient else (if nat_lt d twice then quotient + 1 else quotient + quotient % 2)

-- z / d, of a number with a sign
abbrev pub rounded : ℤ → ℕ → ℤ
rounded (pos n) d = pos (half_even n d)
rounded (negsuc n) d = neg_ℤ (pos (half_even (suc n) d))

-- q is a whole number nearest to z / d, and of two as near it is the even one
pub record IsNearestEven (z : ℤ) (d : ℕ) (q : ℤ) : Type 0 where
  pub nearest : 2 * unsigned_abs (z -ℤ q *ℤ pos d) ≤ d
  pub even : 2 * unsigned_abs (z -ℤ q *ℤ pos d) ≡ d → unsigned_abs q % 2 ≡ 0
