-- What a reader of the code answers, against what its model gives.
use Rattle.std.specs.Prelude.{◌≡◌, ℕ, Bool, false, List, Option, Some, None, option_map, Result, Ok, Err}
use Rattle.std.specs.Borrow.{Bor}
use Rattle.net_exprs.specs.declared.fail.PhraseFail.{PhraseFail}
use Rattle.net_exprs.specs.declared.fail.PhraseFail.TheVariants as fail

-- no part stands there that a tree of the code can hold
abbrev pub Misfits : {X : Type 0} → (X → Bool) → Option (X × List ℕ) → Type 0
Misfits fits None = Unit {0}
Misfits fits (Some part) = fits part.0 ≡ false

abbrev pub FailsFor : {X : Type 0} → (X → Bool) → Option (X × List ℕ) → PhraseFail → Type 0
FailsFor fits model fail.NotNet = Misfits fits model
FailsFor fits model fail.Mem = Unit {0}

-- What is read is what the model gives, with the same rest.
abbrev pub Answers : {A X : Type 0} → (A → X) → (X → Bool) → Option (X × List ℕ) → Result (A × Bor (List ℕ)) PhraseFail → Type 0
Answers view fits model (Ok read) = model ≡ Some (view read.0, read.1.now)
Answers view fits model (Err e) = FailsFor fits model e

-- what references point to
abbrev pub now_of : Option (Bor (List ℕ)) → Option (List ℕ)
now_of found = option_map (λ f. f.now) found

abbrev pub with_now : {A : Type 0} → Option (A × Bor (List ℕ)) → Option (A × List ℕ)
with_now found = option_map (λ f. (f.0, f.1.now)) found
