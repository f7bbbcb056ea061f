-- Powers of ten up to 10 ^ 28.
use Rattle.std.proofs.Common.{ℕ, ◌^◌, ◌<◌, ◌≤◌, lit<, arith}
use Rattle.std.proofs.Math.Nat.{pow-le-pow_right, one-le-pow}

pub power_at_most : (k : ℕ) → k ≤ 28 → 10 ^ k ≤ 10 ^ 28
power_at_most k h = pow-le-pow_right (lit< tt) h

pub power_below : (k : ℕ) → k ≤ 28 → 10 ^ k < 2 ^ 94
power_below k h = let most = power_at_most k h in let small : 10 ^ 28 < 2 ^ 94 = lit< tt in omega (arith, most, small)

pub power_positive : (k : ℕ) → 0 < 10 ^ k
power_positive k = let p = one-le-pow k 10 (lit< tt) in omega (arith, p)
