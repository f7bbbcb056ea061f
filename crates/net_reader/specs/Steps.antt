-- What a step of a reader of the code answers, against its model; and what it has read of a file.
use Rattle.std.specs.Prelude.{◌≡◌, Option, Some, None, Result, Ok, Err}
use Rattle.net_exprs.specs.declared.fail.PhraseFail.{PhraseFail}
use Rattle.net_exprs.specs.declared.fail.PhraseFail.TheVariants as fail

abbrev pub StopsFor : {X : Type 0} → Option X → PhraseFail → Type 0
StopsFor model fail.NotNet = model ≡ None
StopsFor model fail.Mem = Unit {0}

-- It goes where the model goes, and fails exactly where the model does, but for want of memory.
abbrev pub Steps : {A X : Type 0} → (A → X) → Option X → Result A PhraseFail → Type 0
Steps view model (Ok made) = model ≡ Some (view made)
Steps view model (Err e) = StopsFor model e
