-- The lower bounds of an array by its dimension.
use Rattle.std.proofs.Common.{◌≡◌, ◌≢◌, ℕ, suc, zero, Some, pos, refl}
use Rattle.written_rows.specs.declared.facts.ArrayShape.{ArrayShape}
use Rattle.written_rows.specs.View.{shape_low}

pub first_low : (s : ArrayShape) (d : ℕ) → d ≡ 0 → shape_low (Some s) d ≡ s.low
first_low s d e = rw e refl

pub second_low : (s : ArrayShape) (d : ℕ) → d ≡ 1 → shape_low (Some s) d ≡ s.second
second_low s d e = rw e refl

pub no_low : (s : ArrayShape) (d : ℕ) → d ≢ 0 → d ≢ 1 → shape_low (Some s) d ≡ pos 0
no_low s zero a b = absurd (a refl)
no_low s (suc zero) a b = absurd (b refl)
no_low s (suc (suc d)) a b = refl
