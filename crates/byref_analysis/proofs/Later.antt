-- One more argument in the search for a stirring use behind a variable that is given by reference.
use Rattle.std.proofs.Common.{◌≡◌, Bool, true, false, refl}
use Rattle.std.specs.Prelude.{◌||◌, ◌&&◌}

-- the argument stirs and a variable was given before it
pub stirs_here : (given here later refs rest : Bool) → given && here ≡ true → ((given && (here || later)) || ((refs && later) || rest)) ≡ true
stirs_here true true later refs rest h = refl
stirs_here true false later refs rest h = absurd (cc h)
stirs_here false here later refs rest h = absurd (cc h)

-- it doesn't, or none was given
pub goes_on : (given here later refs rest : Bool) → given && here ≡ false → ((given && (here || later)) || ((refs && later) || rest)) ≡ (((given || refs) && later) || rest)
goes_on true true later refs rest h = absurd (cc h)
goes_on true false true refs rest h = refl
goes_on true false false true rest h = refl
goes_on true false false false rest h = refl
goes_on false here later refs rest h = refl
