-- From the answers of parts to that of what they make.
use Rattle.std.proofs.Common.{◌≡◌, ℕ, ◌≤◌, max, sym, ◌∙◌, subst, arith, Result, Ok, Err}
use Rattle.form_parts.specs.declared.answer.PartFail.{PartFail}
use Rattle.form_parts.specs.declared.answer.PartFail.TheVariants as fail
use Rattle.form_parts.specs.Answer.{FailsFor, Answers, both_of}

-- a failure of what a part stands for is one of what is made of it
pub fails_along : {X Y : Type 0} (P : X → Type 0) (d : X → ℕ) (Q : Y → Type 0) (e : Y → ℕ) → ((x : X) → P x → (y : Y) × Q y × (d x ≤ e y)) → ((y : Y) → Q y → (x : X) × P x) → (f : PartFail) → FailsFor P d f → FailsFor Q e f
fails_along P d Q e to back fail.NotFound h = λ y q. let p = back y q in h p.0 p.1
fails_along P d Q e to back fail.TooDeep h = let y = to h.0 h.1 in (y.0, y.1, omega (arith, h.2, y.2))
fails_along P d Q e to back fail.Mem h = tt

module _ {A B X Y : Type 0} (v : A → X) (w : B → Y) (P : X → Type 0) (Q : Y → Type 0) (d : X → ℕ) (e : Y → ℕ) where
  abbrev pub Both : X × Y → Type 0
  Both p = P p.0 × Q p.1

  abbrev pub deeper_of : X × Y → ℕ
  deeper_of p = max (d p.0) (e p.1)

  pub both_answers : (r : Result A PartFail) (s : Result B PartFail) → Answers v P d r → Answers w Q e s → Answers (λ p. (v p.0, w p.1)) Both deeper_of (both_of r s)
  both_answers (Ok a) (Ok b) h k = ((h.0, k.0), omega (arith, h.1, k.1))
  both_answers (Ok a) (Err fail.NotFound) h k = λ p q. k p.1 q.1
  both_answers (Ok a) (Err fail.TooDeep) h k = ((v a, k.0), (h.0, k.1), omega (arith, k.2))
  both_answers (Ok a) (Err fail.Mem) h k = tt
  both_answers (Err fail.NotFound) (Ok b) h k = λ p q. h p.0 q.0
  both_answers (Err fail.TooDeep) (Ok b) h k = ((h.0, w b), (h.1, k.0), omega (arith, h.2))
  both_answers (Err fail.Mem) (Ok b) h k = tt
  both_answers (Err fail.NotFound) (Err fail.NotFound) h k = λ p q. h p.0 q.0
  both_answers (Err fail.NotFound) (Err fail.TooDeep) h k = λ p q. h p.0 q.0
  both_answers (Err fail.NotFound) (Err fail.Mem) h k = tt
  both_answers (Err fail.TooDeep) (Err fail.NotFound) h k = λ p q. k p.1 q.1
  both_answers (Err fail.TooDeep) (Err fail.TooDeep) h k = ((h.0, k.0), (h.1, k.1), omega (arith, h.2))
  both_answers (Err fail.TooDeep) (Err fail.Mem) h k = tt
  both_answers (Err fail.Mem) (Err f) h k = tt

  -- what both answer, where the answer is known
  pub both_failed : (r : Result A PartFail) (s : Result B PartFail) (whole : Result (A × B) PartFail) (f : PartFail) → Answers v P d r → Answers w Q e s → whole ≡ both_of r s → whole ≡ Err f → FailsFor Both deeper_of f
  both_failed r s whole f h k is was = subst (λ z. Answers (λ p. (v p.0, w p.1)) Both deeper_of z) (sym is ∙ was) (both_answers r s h k)

  pub both_gave : (r : Result A PartFail) (s : Result B PartFail) (whole : Result (A × B) PartFail) (g : A × B) → Answers v P d r → Answers w Q e s → whole ≡ both_of r s → whole ≡ Ok g → (P (v g.0) × Q (w g.1)) × (max (d (v g.0)) (e (w g.1)) ≤ 64)
  both_gave r s whole g h k is was = subst (λ z. Answers (λ p. (v p.0, w p.1)) Both deeper_of z) (sym is ∙ was) (both_answers r s h k)
