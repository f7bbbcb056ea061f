-- What a reader of a whole text answers, against what its model gives.
use Rattle.std.specs.Prelude.{◌≡◌, Bool, false, Option, Some, None, Result, Ok, Err}
use Rattle.net_exprs.specs.declared.fail.PhraseFail.{PhraseFail}
use Rattle.net_exprs.specs.declared.fail.PhraseFail.TheVariants as fail

-- nothing is read, or something that no tree of the code can hold
abbrev pub MisfitsWhole : {X : Type 0} → (X → Bool) → Option X → Type 0
MisfitsWhole fits None = Unit {0}
MisfitsWhole fits (Some x) = fits x ≡ false

abbrev pub FailsWhole : {X : Type 0} → (X → Bool) → Option X → PhraseFail → Type 0
FailsWhole fits model fail.NotNet = MisfitsWhole fits model
FailsWhole fits model fail.Mem = Unit {0}

-- What is read is what the model gives.
abbrev pub AnswersWhole : {A X : Type 0} → (A → X) → (X → Bool) → Option X → Result A PhraseFail → Type 0
AnswersWhole view fits model (Ok read) = model ≡ Some (view read)
AnswersWhole view fits model (Err e) = FailsWhole fits model e
