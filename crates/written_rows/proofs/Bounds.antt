-- Dimensions that are counted from 1 in the source.
use Rattle.std.proofs.Common.{◌≡◌, ◌<ℤ◌, ◌≤ℤ◌, ℕ, zero, suc, ℤ, pos, negsuc, refl, sym, ap, arith}
use Rattle.std.proofs.lemmas.Int.{ints}
use Rattle.std.specs.Prelude.{◌-ℤ◌, unsigned_abs}
use Rattle.written_trees.specs.Library.{one_less}

pub none_less : (z : ℤ) → z ≤ℤ pos 0 → one_less z ≡ 0
none_less (pos zero) h = refl
none_less (pos (suc n)) h = absurd (omega (arith, ints))
none_less (negsuc n) h = refl

one_back : (n : ℕ) → pos (suc n) -ℤ pos 1 ≡ pos n
one_back n = omega (arith, ints)

pub less_by_one : (z : ℤ) → pos 0 <ℤ z → one_less z ≡ unsigned_abs (z -ℤ pos 1)
less_by_one (pos zero) h = absurd (omega (arith, ints))
less_by_one (pos (suc n)) h = ap unsigned_abs (sym (one_back n))
less_by_one (negsuc n) h = absurd (omega (arith, ints))
