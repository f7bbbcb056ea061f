-- How the failure of a part becomes that of the whole.
use Rattle.std.proofs.Common.{◌≡◌, ℕ, Bool, false, List, Option, Some, None, option_map, option_and_then}
use Rattle.net_exprs.specs.declared.fail.PhraseFail.{PhraseFail}
use Rattle.net_exprs.specs.declared.fail.PhraseFail.TheVariants as fail
use Rattle.net_exprs.specs.Answers.{FailsFor, Misfits}
use Rattle.net_reader.specs.Answers.{FailsWhole, MisfitsWhole}

pub fails_whole : {X Y : Type 0} (f : X → Bool) (g : Y → Bool) (o : Option (X × List ℕ)) (p : Option Y) (e : PhraseFail)
    → (Misfits f o → MisfitsWhole g p) → FailsFor f o e → FailsWhole g p e
fails_whole f g o p fail.NotNet up h = up h
fails_whole f g o p fail.Mem up h = tt

pub whole_fails : {X Y : Type 0} (f : X → Bool) (g : Y → Bool) (o : Option X) (p : Option Y) (e : PhraseFail)
    → (MisfitsWhole f o → MisfitsWhole g p) → FailsWhole f o e → FailsWhole g p e
whole_fails f g o p fail.NotNet up h = up h
whole_fails f g o p fail.Mem up h = tt

-- ---- what doesn't fit doesn't fit as a part of more

pub misfits_map : {X Y : Type 0} (f : X → Bool) (g : Y → Bool) (o : Option (X × List ℕ)) (make : X × List ℕ → Y × List ℕ)
    → ((r : X × List ℕ) → f r.0 ≡ false → g (make r).0 ≡ false) → Misfits f o → Misfits g (option_map make o)
misfits_map f g None make up h = tt
misfits_map f g (Some r) make up h = up r h

pub misfits_then : {X Y : Type 0} (f : X → Bool) (g : Y → Bool) (o : Option (X × List ℕ)) (go : X × List ℕ → Option (Y × List ℕ))
    → ((r : X × List ℕ) → f r.0 ≡ false → Misfits g (go r)) → Misfits f o → Misfits g (option_and_then go o)
misfits_then f g None go up h = tt
misfits_then f g (Some r) go up h = up r h

pub misfits_always : {X Y : Type 0} (g : Y → Bool) (o : Option (X × List ℕ)) (make : X × List ℕ → Y × List ℕ) → ((r : X × List ℕ) → g (make r).0 ≡ false) → Misfits g (option_map make o)
misfits_always g None make all = tt
misfits_always g (Some r) make all = all r

pub misfits_end : {X Y : Type 0} (f : X → Bool) (g : Y → Bool) (o : Option (X × List ℕ)) (make : X × List ℕ → Y)
    → ((r : X × List ℕ) → f r.0 ≡ false → g (make r) ≡ false) → Misfits f o → MisfitsWhole g (option_map make o)
misfits_end f g None make up h = tt
misfits_end f g (Some r) make up h = up r h

pub misfits_whole : {X Y : Type 0} (f : X → Bool) (g : Y → Bool) (o : Option (X × List ℕ)) (go : X × List ℕ → Option Y)
    → ((r : X × List ℕ) → f r.0 ≡ false → MisfitsWhole g (go r)) → Misfits f o → MisfitsWhole g (option_and_then go o)
misfits_whole f g None go up h = tt
misfits_whole f g (Some r) go up h = up r h

pub whole_map : {X Y : Type 0} (f : X → Bool) (g : Y → Bool) (o : Option X) (make : X → Y)
    → ((x : X) → f x ≡ false → g (make x) ≡ false) → MisfitsWhole f o → MisfitsWhole g (option_map make o)
whole_map f g None make up h = tt
whole_map f g (Some x) make up h = up x h

pub whole_always : {X Y : Type 0} (g : Y → Bool) (o : Option X) (make : X → Y) → ((x : X) → g (make x) ≡ false) → MisfitsWhole g (option_map make o)
whole_always g None make all = tt
whole_always g (Some x) make all = all x

pub ends_always : {X Y : Type 0} (g : Y → Bool) (o : Option (X × List ℕ)) (make : X × List ℕ → Y) → ((r : X × List ℕ) → g (make r) ≡ false) → MisfitsWhole g (option_map make o)
ends_always g None make all = tt
ends_always g (Some r) make all = all r
