-- How the failure of a part becomes that of the whole.
use Rattle.std.proofs.Common.{◌≡◌, ℕ, ◌≤◌, ◌<◌, Bool, false, List, length, Option, Some, None, Result, Ok, Err, IfOk, Bor, arith, refl}
use Rattle.net_exprs.specs.declared.fail.PhraseFail.{PhraseFail}
use Rattle.net_exprs.specs.declared.fail.PhraseFail.TheVariants as fail
use Rattle.net_exprs.specs.Answers.{FailsFor, Misfits}
use Rattle.net_exprs.specs.Readers.{behind}

pub fails_up : {X Y : Type 0} (f : X → Bool) (g : Y → Bool) (o : Option (X × List ℕ)) (p : Option (Y × List ℕ)) (e : PhraseFail)
    → (Misfits f o → Misfits g p) → FailsFor f o e → FailsFor g p e
fails_up f g o p fail.NotNet up h = up h
fails_up f g o p fail.Mem up h = tt

-- what doesn't fit doesn't fit as a part of more
pub misfits_behind : {X Y : Type 0} (f : X → Bool) (g : Y → Bool) (o : Option (X × List ℕ)) (go : X → List ℕ → Option (Y × List ℕ))
    → ((x : X) (rest : List ℕ) → f x ≡ false → Misfits g (go x rest)) → Misfits f o → Misfits g (behind o go)
misfits_behind f g None go up h = tt
misfits_behind f g (Some part) go up h = up part.0 part.1 h

pub shorter_up : {A : Type 0} (r : Result (A × Bor (List ℕ)) PhraseFail) (m n : ℕ) → m < n → IfOk r (λ read. length read.1.now ≤ m) → IfOk r (λ read. length read.1.now < n)
shorter_up (Ok read) m n h k = omega (arith, h, k)
shorter_up (Err e) m n h k = tt

pub misfits_always : {X Y : Type 0} (g : Y → Bool) (o : Option (X × List ℕ)) (go : X → List ℕ → Option (Y × List ℕ)) → ((x : X) (rest : List ℕ) → Misfits g (go x rest)) → Misfits g (behind o go)
misfits_always g None go all = tt
misfits_always g (Some part) go all = all part.0 part.1

-- a failure that has a cause where it is no want of memory
pub fails_over : {X : Type 0} (A : Type 0) (f : X → Bool) (o : Option (X × List ℕ)) (e : PhraseFail) (P : Type 0) → (◌≡◌ {A = Result A PhraseFail} (Err e) (Err fail.NotNet) → P) → (P → Misfits f o) → FailsFor f o e
fails_over A f o fail.NotNet P cause up = up (cause refl)
fails_over A f o fail.Mem P cause up = tt
