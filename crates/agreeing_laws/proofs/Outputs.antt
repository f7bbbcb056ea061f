-- What was put out stays, and computations one after another.
use Rattle.std.proofs.Common.{◌≡◌, List, [], ◌++◌, refl, ap, ◌∙◌, append_assoc}
use Rattle.agreeing_laws.specs.Promises.{Yields}
use Rattle.run_base.specs.Outcomes.{Output, Outcome, gives, raises, spent, outside, outputs, after, then}

pub outputs_after : {M A : Type 0} (o : List Output) (r : Outcome M A) → outputs (after o r) ≡ o ++ outputs r
outputs_after o (gives p a w) = refl
outputs_after o (raises p e w) = refl
outputs_after o (spent p w) = refl
outputs_after o (outside p) = refl

pub outputs_then : {M A B : Type 0} (o rest : List Output) (r : Outcome M A) (k : A → M → Outcome M B) → outputs r ≡ o ++ rest
    → (more : List Output) × (outputs (then r k) ≡ o ++ more)
outputs_then o rest (gives p a w) k e =
    (rest ++ outputs (k a w), outputs_after p (k a w) ∙ ap (λ q. q ++ outputs (k a w)) e ∙ append_assoc o rest (outputs (k a w)))
outputs_then o rest (raises p c w) k e = (rest, e)
outputs_then o rest (spent p w) k e = (rest, e)
outputs_then o rest (outside p) k e = (rest, e)

pub after_nothing : {M A : Type 0} (r : Outcome M A) → after [] r ≡ r
after_nothing (gives p a w) = refl
after_nothing (raises p e w) = refl
after_nothing (spent p w) = refl
after_nothing (outside p) = refl

pub after_after : {M A : Type 0} (o p : List Output) (r : Outcome M A) → after (o ++ p) r ≡ after o (after p r)
after_after o p (gives q a w) = ap (λ x. gives x a w) (append_assoc o p q)
after_after o p (raises q e w) = ap (λ x. raises x e w) (append_assoc o p q)
after_after o p (spent q w) = ap (λ x. spent x w) (append_assoc o p q)
after_after o p (outside q) = ap (λ x. outside x) (append_assoc o p q)

pub then_after : {M A B : Type 0} (o : List Output) (r : Outcome M A) (k : A → M → Outcome M B) → then (after o r) k ≡ after o (then r k)
then_after o (gives p a w) k = after_after o p (k a w)
then_after o (raises p e w) k = refl
then_after o (spent p w) k = refl
then_after o (outside p) k = refl

-- three computations in a row
pub then_then : {M A B C : Type 0} (r : Outcome M A) (k : A → M → Outcome M B) (j : B → M → Outcome M C) → then (then r k) j ≡ then r (λ a w. then (k a w) j)
then_then (gives o a w) k j = then_after o (k a w) j
then_then (raises o e w) k j = refl
then_then (spent o w) k j = refl
then_then (outside o) k j = refl

-- ---- what a computation yields

pub yields_after : {M A : Type 0} (Q : A → M → Type 0) (o : List Output) (r : Outcome M A) → Yields Q r → Yields Q (after o r)
yields_after Q o (gives p a w) h = h
yields_after Q o (raises p e w) h = tt
yields_after Q o (spent p w) h = tt
yields_after Q o (outside p) h = tt

pub yields_then : {M A B : Type 0} (Q : B → M → Type 0) (r : Outcome M A) (k : A → M → Outcome M B) → ((a : A) (w : M) → Yields Q (k a w)) → Yields Q (then r k)
yields_then Q (gives o a w) k h = yields_after Q o (k a w) (h a w)
yields_then Q (raises o e w) k h = tt
yields_then Q (spent o w) k h = tt
yields_then Q (outside o) k h = tt
