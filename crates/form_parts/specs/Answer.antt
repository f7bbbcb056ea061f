-- What a reader of a part answers.
use Rattle.std.specs.Prelude.{ℕ, ◌<◌, ◌≤◌, Result, Ok, Err}
use Rattle.form_parts.specs.declared.answer.PartFail.{PartFail}
use Rattle.form_parts.specs.declared.answer.PartFail.TheVariants as fail

-- no such part stands there; or one does, and it is deeper than 64
abbrev pub FailsFor : {X : Type 0} → (X → Type 0) → (X → ℕ) → PartFail → Type 0
FailsFor Is depth fail.NotFound = (x : _) → Is x → ⊥
FailsFor Is depth fail.TooDeep = (x : _) × Is x × (64 < depth x)
FailsFor Is depth fail.Mem = Unit {0}

-- What is read stands for a part that is there, and it is no deeper than 64.
abbrev pub Answers : {A X : Type 0} → (A → X) → (X → Type 0) → (X → ℕ) → Result A PartFail → Type 0
Answers view Is depth (Ok a) = Is (view a) × (depth (view a) ≤ 64)
Answers view Is depth (Err e) = FailsFor Is depth e

-- of two failures the one that goes before the other
abbrev pub worse : PartFail → PartFail → PartFail
worse fail.NotFound fail.Mem = fail.Mem
worse fail.NotFound fail.NotFound = fail.NotFound
worse fail.NotFound fail.TooDeep = fail.NotFound
worse fail.TooDeep e = e
worse fail.Mem e = fail.Mem

abbrev pub both_of : {A B : Type 0} → Result A PartFail → Result B PartFail → Result (A × B) PartFail
both_of (Ok a) (Ok b) = Ok (a, b)
both_of (Ok a) (Err e) = Err e
both_of (Err e) (Ok b) = Err e
both_of (Err e) (Err f) = Err (worse e f)
