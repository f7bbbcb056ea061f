-- From the answer to a part to that of what holds it.
use Rattle.std.proofs.Common.{◌≡◌, ℕ, ◌<◌, ◌≤◌, List, [], ◌∷◌, ◌++◌, refl, sym, ap, ◌∙◌, subst, arith, Option, Some, None, Result, Ok, Err, length, map, option_map, ◌⊎◌, inl, inr}
use Rattle.vb_tree.specs.declared.token.Token.{Token}
use Rattle.form_parts.specs.declared.answer.PartFail.{PartFail}
use Rattle.form_parts.specs.declared.answer.PartFail.TheVariants as fail
use Rattle.form_parts.specs.Answer.{FailsFor, Answers, both_of, worse}
use Rattle.form_parts.specs.Cuts.{pieces, Each}
use Rattle.form_parts.specs.Items.{one_more}
use Rattle.form_parts.specs.declared.cuts.Separator.TheVariants.{Comma}
use Rattle.form_parts.proofs.Answering.{fails_along}
use Rattle.declaration_forms.specs.Wholes.{IsOptional, AreItems, optional_depth}

module _ {X : Type 0} (P : List Token → X → Type 0) (d : X → ℕ) where
  given_of : (tokens : List Token) (y : Option X) → IsOptional P (Some tokens) y → (x : X) × P tokens x
  given_of tokens None h = absurd h
  given_of tokens (Some x) h = (x, h)

  -- what a part fails for, what may be missing fails for where its tokens are there
  pub optional_fails : (tokens : List Token) (f : PartFail) → FailsFor (P tokens) d f → FailsFor (IsOptional P (Some tokens)) (optional_depth d) f
  optional_fails tokens =
      fails_along (P tokens) d (IsOptional P (Some tokens)) (optional_depth d)
      (λ x h. (Some x, h, omega arith))
      (λ y h. given_of tokens y h)

  -- a list of items where there are tokens
  pub items_answer : {A : Type 0} (v : A → X) (e : List X → ℕ) (tokens : List Token) (r : Result (List A) PartFail) → 0 < length tokens → Answers (map v) (Each P (pieces Comma tokens)) e r → Answers (map v) (AreItems P tokens) e r
  items_answer v e [] r h k = absurd (omega (arith, h))
  items_answer v e (t ∷ ts) r h k = k

pub both_pair : {A : Type 0} (r : Result (List A) PartFail) (s : Result A PartFail) (xs : List A) (x : A) → both_of r s ≡ Ok (xs, x) → one_more r s ≡ Ok (xs ++ x ∷ [])
both_pair {A = A} (Ok ys) (Ok y) xs x h = let e : ◌≡◌ {A = List A × A} (ys, y) (xs, x) = cc in ap (λ (q : List A × A). Ok (q.0 ++ q.1 ∷ [])) e
both_pair (Ok ys) (Err e) xs x h = absurd (cc)
both_pair (Err e) (Ok y) xs x h = absurd (cc)
both_pair (Err e) (Err f) xs x h = absurd (cc)

pub both_err : {A : Type 0} (r : Result (List A) PartFail) (s : Result A PartFail) (g : PartFail) → both_of r s ≡ Err g → one_more r s ≡ Err g
both_err (Ok ys) (Ok y) g h = absurd (cc)
both_err (Ok ys) (Err e) g h = cc
both_err (Err e) (Ok y) g h = cc
both_err (Err e) (Err f) g h = cc
