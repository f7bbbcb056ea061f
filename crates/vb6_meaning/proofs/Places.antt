-- The digits of a fraction, one at a time.
use Rattle.std.proofs.Common.{◌≡◌, ℕ, zero, suc, ◌+◌, ◌-◌, ◌/◌, ◌%◌, ◌^◌, ◌<◌, true, false, [], ◌∷◌, refl, arith}
use Rattle.std.specs.Prelude.{◌==◌}
use Rattle.std.proofs.lemmas.Bool.Decides.{nat_tests}
use Rattle.std.proofs.Math.Nat.{pow-suc}
use Rattle.vb6_meaning.specs.NumberTexts.{places_text}

pub no_places : (places r : ℕ) → places ≡ 0 → places_text places r ≡ []
no_places zero r e = refl
no_places (suc places) r e = absurd (omega arith)

pub nothing_left : (places r : ℕ) → r ≡ 0 → places_text places r ≡ []
nothing_left zero r e = refl
nothing_left (suc places) r e = let t : (r == 0) ≡ true = grind (arith, nat_tests) in rw t

pub next_place : (places r : ℕ) → (places ≡ 0 → ⊥) → (r ≡ 0 → ⊥) → places_text places r ≡ (48 + r / 10 ^ (places - 1)) ∷ places_text (places - 1) (r % 10 ^ (places - 1))
next_place zero r some left = absurd (some refl)
next_place (suc places) r some left =
    let t : (r == 0) ≡ false = grind (arith, nat_tests) in let e : suc places - 1 ≡ places = omega arith in rw (t, e)

pub unit_positive : (places : ℕ) → 0 < 10 ^ places
unit_positive zero = omega arith
unit_positive (suc places) = let before = unit_positive places in omega (arith, pow-suc 10 places)
