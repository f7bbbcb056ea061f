-- Tests, and numbers that are the same or differ.
use Rattle.std.proofs.Common.{◌≡◌, ℕ, zero, suc, ◌<◌, Bool, true, false, nat_eq, refl, arith}
use Rattle.std.specs.Prelude.{cond, ◌||◌, ◌&&◌}
use Rattle.std.proofs.lemmas.Bool.Decides.{nat_tests}

pub or_false : (a b : Bool) → a ≡ false → b ≡ false → (a || b) ≡ false
or_false true b d e = absurd (cc d)
or_false false b d e = e

pub left_false : (a b : Bool) → (a || b) ≡ false → a ≡ false
left_false true b e = e
left_false false b e = refl

pub right_false : (a b : Bool) → (a || b) ≡ false → b ≡ false
right_false true b e = absurd (cc e)
right_false false b e = e

pub four : (a b c d : Bool) → ((a || b) || (c || d)) ≡ ((a || c) || (b || d))
four true b c d = refl
four false true true d = refl
four false true false d = refl
four false false c d = refl

pub and_false : (a b : Bool) → b ≡ false → (a && b) ≡ false
and_false true b e = e
and_false false b e = refl

pub first_false : (a b : Bool) → a ≡ false → (a && b) ≡ false
first_false true b e = absurd (cc e)
first_false false b e = refl

pub less : (a b : ℕ) → a < b → nat_eq a b ≡ false
less a b h = grind (arith, nat_tests)

pub more : (a b : ℕ) → b < a → nat_eq a b ≡ false
more a b h = grind (arith, nat_tests)

pub same : (n : ℕ) → nat_eq n n ≡ true
same zero = refl
same (suc n) = grind (arith, nat_tests)

pub first_taken : {X : Type 0} (b : Bool) (s t : X) → b ≡ true → cond b s t ≡ s
first_taken true s t e = refl
first_taken false s t e = absurd (cc e)

pub second_taken : {X : Type 0} (b : Bool) (s t : X) → b ≡ false → cond b s t ≡ t
second_taken true s t e = absurd (cc e)
second_taken false s t e = refl

pub first_any : (a b : Bool) → a ≡ true → (a || b) ≡ true
first_any true b e = refl
first_any false b e = absurd (cc e)

pub later_any : (a b : Bool) → b ≡ true → (a || b) ≡ true
later_any true b e = refl
later_any false b e = e
